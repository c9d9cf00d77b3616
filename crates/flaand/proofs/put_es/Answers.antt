use Rattle.std.specs.Prelude.{◌≡◌, ◌++◌, ◌+◌, ◌-◌, ◌*◌, ◌≤◌}
use Rattle.lists.specs.Kit.{refl, ap, ◌∙◌, List, ℕ, arith, length, drop, set}
use lib.ListN.{length-set}
use Rattle.lists.specs.Over.{tab, tab-zero, tab-step, tab-end, in-chunks}
use Rattle.algebra.specs.Group.{num}
use Rattle.flaand.proofs.put_es.Goals as goal
use Rattle.flaand.proofs.put_es.Invariants.{bit}
use Rattle.flaand.proofs.put_es.Goals.{In-loop-t}

pub loop-t-init : goal.loop-t-init
loop-t-init c = (refl, tab-zero _ _)

-- the bit lies within the message
read-in : (c : In-loop-t) → 8 + c.loop-t.t * 17 + 17 ≤ length c.args.m.now
read-in c =
    omega (
      arith,
      c.loop-t-test.true,
      c.loop-t.invariant.0,
      in-chunks c.loop-t.t (length c.args.row.now) 17
          (omega (arith, c.loop-t-test.true, c.loop-t.invariant.0)),
      c.requires,
    )

pub overflow_mul-t : goal.overflow_mul-t
overflow_mul-t c = omega (arith, read-in (goal.at.overflow_mul-t c).In-loop-t)

pub overflow_add-t : goal.overflow_add-t
overflow_add-t c = omega (arith, read-in (goal.at.overflow_add-t c).In-loop-t)

pub bit-requires : goal.bit-requires
bit-requires c = omega (arith, read-in (goal.at.bit-requires c).In-loop-t)

pub loop-t-preserved : goal.loop-t-preserved
loop-t-preserved c =
    let e : c.bit_byte.result ≡ bit c.args.m.now c.loop-t.t = c.bit_byte.ensures ∙ ap num c.bit.ensures in (
      length-set c.loop-t.row c.loop-t.t c.bit_byte.result ∙ c.loop-t.invariant.0,
      ap (λ (x : List ℕ). set x c.loop-t.t c.bit_byte.result) c.loop-t.invariant.1
          ∙ ap (set (tab c.loop-t.t (bit c.args.m.now) ++ drop c.loop-t.t c.args.row.now) c.loop-t.t) e
          ∙ tab-step c.loop-t.t (bit c.args.m.now) c.args.row.now (omega (arith, c.loop-t-test.true, c.loop-t.invariant.0)),
    )

pub shape_of-row : goal.shape_of-row
shape_of-row c = c.loop-t.invariant.0

pub returns : goal.returns
returns c =
    tab-end c.loop-t.t (length c.args.row.now) (bit c.args.m.now) c.args.row.now c.loop-t.row c.loop-t.invariant.1
    (omega (arith, c.loop-t-test.false, c.loop-t.invariant.0)) refl
