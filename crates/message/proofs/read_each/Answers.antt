use Rattle.std.specs.Prelude.{◌≡◌}
use Rattle.lists.specs.Kit.{sym, arith}
use Rattle.message.specs.FormatLaws.{decodes-short, read_none}
use Rattle.message.proofs.Walk.{walked_start, walked-room, walked-turn, walked_stop, inners-none, inners-turn, read-end}
use Rattle.message.proofs.read_each.Goals as goal

pub returns-then-m-lt8 : goal.returns-then-m-lt8
returns-then-m-lt8 c = read_none c.args.kind c.args.m.now (decodes-short c.args.kind c.args.m.now c.if-m-lt8.true)

pub loop-t-init : goal.loop-t-init
loop-t-init c = (walked_start c.args.kind c.args.m.now c.if-m-lt8.false, inners-none c.args.kind c.args.m.now)

pub item_len-requires : goal.item_len-requires
item_len-requires c = c.loop-t.invariant.0.fits

pub returns-in_err-len : goal.returns-in_err-len
returns-in_err-len c =
    rw c.from_residual.ensures
    (read_none c.args.kind c.args.m.now
    (walked_stop c.args.kind c.args.m.now c.loop-t.t c.loop-t.pos 0 c.loop-t.invariant.0 (sym c.in_err-len.ensures)
    (omega (arith, c.load64-found.ensures, c.loop-t-test.true)) (omega arith)))

pub inner_due-inner-requires : goal.inner_due-inner-requires
inner_due-inner-requires c = (c.loop-t.invariant.0.fits, omega (arith, c.in_ok-len.ensures.0, c.in_ok-len.ensures.1))

pub overflow_add-pos : goal.overflow_add-pos
overflow_add-pos c =
    omega (
      arith,
      walked-room c.args.kind c.args.m.now c.loop-t.t c.loop-t.pos c.in_ok-len.len c.loop-t.invariant.0 c.in_ok-len.ensures.0,
    )

pub loop-t-preserved : goal.loop-t-preserved
loop-t-preserved c =
    let a = c.args in
    let w = c.loop-t.invariant.0 in (
      walked-turn a.kind a.m.now c.loop-t.t c.loop-t.pos c.in_ok-len.len w c.in_ok-len.ensures.0 c.in_ok-len.ensures.1,
      inners-turn a.kind a.m.now c.loop-t.t c.loop-t.pos w c.loop-t.inner c.inner_due-inner.result c.loop-t.invariant.1
          c.inner_due-inner.ensures,
    )

pub returns : goal.returns
returns c =
    let a = c.args in
    let e : c.loop-t.t ≡ c.load64-found.result = omega arith in
    read-end a.kind a.count a.m.now c.loop-t.t c.loop-t.pos c.load64-found.result c.loop-t.inner c.loop-t.invariant.0 c.if-m-lt8.false e
    c.load64-found.ensures c.loop-t.invariant.1
