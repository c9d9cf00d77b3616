use Rattle.std.specs.Prelude.{◌≡◌, ◌<◌}
use Rattle.lists.specs.Kit.{ap, ◌∙◌, arith, drop}
use Rattle.message.specs.Format.{item_at, item_len}
use Rattle.message.specs.FormatLaws.{decoded}
use Rattle.message.proofs.Walk.{walked_start, walked-room, walked-turn, walked-item, len-is}
use Rattle.message.proofs.item_at.Goals as goal
use Rattle.message.proofs.item_at.Goals.{After-unwrap_or-pos}

pub loop-k-init : goal.loop-k-init
loop-k-init c = walked_start c.args.kind c.args.m.now (decoded c.args.kind c.args.m.now c.requires.0).head

pub item_len-requires : goal.item_len-requires
item_len-requires c = c.loop-k.invariant.fits

-- the length of item k
this : (c : After-unwrap_or-pos) → c.unwrap_or-pos.result ≡ item_len c.args.kind (drop c.loop-k.pos c.args.m.now)
this c = c.unwrap_or-pos.ensures ∙ len-is c.item_len.result _ c.item_len.ensures

pub overflow_add-pos : goal.overflow_add-pos
overflow_add-pos c =
    omega (
      arith,
      walked-room c.args.kind c.args.m.now c.loop-k.k c.loop-k.pos c.unwrap_or-pos.result c.loop-k.invariant
          (this (goal.at.overflow_add-pos c).After-unwrap_or-pos),
    )

pub loop-k-preserved : goal.loop-k-preserved
loop-k-preserved c =
    let a = c.args in
    let e = this (goal.at.loop-k-preserved c).After-unwrap_or-pos in
    let p : 0 < item_len a.kind (drop c.loop-k.pos a.m.now) =
    walked-item a.kind a.m.now c.loop-k.k c.loop-k.pos c.loop-k.invariant c.requires.0 (omega (arith, c.loop-k-test.true, c.requires.1)) in
    walked-turn a.kind a.m.now c.loop-k.k c.loop-k.pos c.unwrap_or-pos.result c.loop-k.invariant e (omega arith)

pub returns : goal.returns
returns c =
    let e : c.loop-k.k ≡ c.args.t = omega arith in
    c.loop-k.invariant.here ∙ ap (item_at c.args.kind c.args.m.now) e
