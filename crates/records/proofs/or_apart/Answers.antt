use Rattle.std.specs.Prelude.{◌+◌, ◌<◌}
use Rattle.lists.specs.Kit.{refl, ap, ◌∙◌, List, ℕ, arith, length, get_or}
use lib.Bits.{bit_or, bit_xor}
use Rattle.lists.specs.Over.{tab, length-tab, tab-zero, tab-turn, tab-end, over-get}
use Rattle.records.specs.Seen.{ored}
use Rattle.records.proofs.or_apart.Goals as goal
use Rattle.records.proofs.or_apart.Invariants.{both}

pub loop-k-init : goal.loop-k-init
loop-k-init c = tab-zero _ _

pub loop-k-preserved : goal.loop-k-preserved
loop-k-preserved c =
    let e = c.args.e.now in
    let f = both e c.args.s.now c.args.at c.args.due.now in
    let k = c.loop-k.k in
    let w : k < length e = omega arith in
    tab-turn k f e c.loop-k.all _ c.loop-k.invariant
    (ap (λ x. bit_or x (bit_xor (get_or c.args.s.now (c.args.at + k) 0) (get_or c.args.due.now k 0)))
    (ap (λ (x : List ℕ). get_or x k 0) c.loop-k.invariant ∙ over-get (tab k f) e k 0 (length-tab k f) w))
    w

pub returns : goal.returns
unfolding ored
returns c =
    tab-end c.loop-k.k (length c.args.e.now) (both c.args.e.now c.args.s.now c.args.at c.args.due.now) c.args.e.now c.loop-k.all
    c.loop-k.invariant (omega arith) refl
