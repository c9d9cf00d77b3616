use Rattle.std.specs.Prelude.{◌≡◌, ◌+◌, ◌*◌, ◌<◌, ◌≤◌}
use Rattle.lists.specs.Kit.{refl, sym, subst, ◌∙◌, arith, length}
use native.Mathlib.Nat.{zero-mul, suc-mul}
use Rattle.message.specs.declared.Kind.TheVariants.{Items}
use Rattle.message.specs.Format.{count_of}
use Rattle.message.specs.FormatLaws.{vec-held, read_none}
use Rattle.message.proofs.Walk.{walked_start, fixed-over, fixed-room, fixed-turn, fixed-stop, fixed-end, plain-items}
use Rattle.message.proofs.Walk.{Walked}
use Rattle.message.proofs.read_items.Goals as goal
use Rattle.message.proofs.read_items.Goals.{In_ok-used, In-loop-k}

pub returns-in_err-used : goal.returns-in_err-used
returns-in_err-used c =
    rw c.from_residual.ensures
    (read_none (Items c.args.size c.args.flags) c.args.m.now
    (fixed-over c.args.size c.args.flags c.args.m.now c.requires c.in_err-used.ensures))

fits : (c : In_ok-used) → 8 + count_of c.args.m.now * c.args.size ≤ length c.args.m.now
fits c = (vec-held c.args.size c.args.m.now (omega (arith, c.in_ok-used.ensures.0, c.in_ok-used.ensures.1))).fits

pub load64-found-requires : goal.load64-found-requires
load64-found-requires c = omega (arith, fits (goal.at.load64-found-requires c).In_ok-used)

pub returns-then-flags-eq0 : goal.returns-then-flags-eq0
returns-then-flags-eq0 c =
    let a = c.args in
    let m = a.m.now in
    let h = fits (goal.at.returns-then-flags-eq0 c).In_ok-used in
    fixed-end a.size a.flags m c.requires h a.count c.in_ok-used.used c.load64-found.result (count_of m) (8 + count_of m * a.size)
    (plain-items a.size a.flags m c.requires h c.if-flags-eq0.true (count_of m) (omega arith)) refl c.in_ok-used.ensures.0
    c.load64-found.ensures

pub loop-k-init : goal.loop-k-init
loop-k-init c =
    subst (Walked (Items c.args.size c.args.flags) c.args.m.now 0) (omega (arith, zero-mul c.args.size))
    (walked_start (Items c.args.size c.args.flags) c.args.m.now (omega (arith, fits (goal.at.loop-k-init c).In_ok-used)))

-- item k lies within
below : (c : In-loop-k) → c.loop-k.k < count_of c.args.m.now
below c = omega (arith, c.loop-k-test.true, c.load64-found.ensures)

room : (c : In-loop-k) → 8 + c.loop-k.k * c.args.size + c.args.size ≤ length c.args.m.now
room c =
    fixed-room c.args.size c.args.flags c.args.m.now c.requires
    (vec-held c.args.size c.args.m.now (omega (arith, c.in_ok-used.ensures.0, c.in_ok-used.ensures.1))).fits c.loop-k.k _ c.loop-k.invariant
    (below c)

pub overflow_mul-k : goal.overflow_mul-k
overflow_mul-k c = omega (arith, room (goal.at.overflow_mul-k c).In-loop-k)

pub overflow_add-k : goal.overflow_add-k
overflow_add-k c = omega (arith, room (goal.at.overflow_add-k c).In-loop-k)

pub bools-requires : goal.bools-requires
bools-requires c = omega (arith, room (goal.at.bools-requires c).In-loop-k)

pub returns-then-not-bools : goal.returns-then-not-bools
returns-then-not-bools c =
    let a = c.args in
    read_none (Items a.size a.flags) a.m.now
    (fixed-stop a.size a.flags a.m.now c.requires (fits (goal.at.returns-then-not-bools c).In_ok-used) c.loop-k.k _ c.loop-k.invariant
    (below (goal.at.returns-then-not-bools c).In-loop-k) (sym c.bools.ensures ∙ c.if-not-bools.true))

pub loop-k-preserved : goal.loop-k-preserved
loop-k-preserved c =
    let a = c.args in
    subst (Walked (Items a.size a.flags) a.m.now (c.loop-k.k + 1))
    (let e : 8 + c.loop-k.k * a.size + a.size ≡ 8 + (c.loop-k.k + 1) * a.size = omega (arith, suc-mul c.loop-k.k a.size) in e)
    (fixed-turn a.size a.flags a.m.now c.requires (fits (goal.at.loop-k-preserved c).In_ok-used) c.loop-k.k _ c.loop-k.invariant
    (below (goal.at.loop-k-preserved c).In-loop-k) (sym c.bools.ensures ∙ c.if-not-bools.false))

pub returns : goal.returns
returns c =
    let a = c.args in
    fixed-end a.size a.flags a.m.now c.requires (fits (goal.at.returns c).In_ok-used) a.count c.in_ok-used.used c.load64-found.result
    c.loop-k.k _ c.loop-k.invariant (omega (arith, c.load64-found.ensures)) c.in_ok-used.ensures.0 c.load64-found.ensures
