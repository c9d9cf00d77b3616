-- `plan::sent` meets its contract.
use Rattle.std.specs.Prelude.{◌-◌, ◌≤◌}
use Rattle.lists.specs.Kit.{refl, sym, ◌∙◌, arith}
use native.Mathlib.Nat.{mul-le-mul}
use Rattle.plan.specs.Plan.{sent, InRange}
use Rattle.plan.specs.PlanLaws.{in-range-true, sent-most}
use Rattle.plan.proofs.sent.Goals as goal
use Rattle.plan.proofs.sent.Goals.{Then-in_range}

ok : (c : Then-in_range) → InRange c.args.n c.args.l
ok c = in-range-true _ _ (sym c.in_range.ensures ∙ c.if-in_range.true)

pub overflow_sub-result : goal.overflow_sub-result
overflow_sub-result c = let r = ok (goal.at.overflow_sub-result c).Then-in_range in omega arith

pub overflow_mul-result : goal.overflow_mul-result
overflow_mul-result c =
    let r = ok (goal.at.overflow_mul-result c).Then-in_range in let h : c.args.n - 1 ≤ 7 = omega arith in
    rw c.sent_to_one.ensures (omega (arith, mul-le-mul h (sent-most c.args.n c.args.l r 22)))

pub returns-then-in_range : goal.returns-then-in_range
unfolding sent
returns-then-in_range c = rw (c.sent_to_one.ensures, sym c.in_range.ensures ∙ c.if-in_range.true) refl

pub returns-else-in_range : goal.returns-else-in_range
unfolding sent
returns-else-in_range c = rw (sym c.in_range.ensures ∙ c.if-in_range.false) refl

pub sent_to_one-requires : goal.sent_to_one-requires
sent_to_one-requires c = ok (goal.at.sent_to_one-requires c).Then-in_range
