-- `plan::masks_len` meets its contract.
use Rattle.lists.specs.Kit.{refl, sym, ◌∙◌, arith}
use native.Mathlib.Nat.{mul-le-mul}
use Rattle.plan.specs.Plan.{masks_len}
use Rattle.plan.specs.PlanLaws.{in-range-true, leaky-most}
use Rattle.plan.proofs.masks_len.Goals as goal

pub leaky-requires : goal.leaky-requires
leaky-requires c = (in-range-true _ _ (sym c.in_range.ensures ∙ c.if-in_range.true)).most

pub overflow_mul-result : goal.overflow_mul-result
overflow_mul-result c =
    let r = in-range-true _ _ (sym c.in_range.ensures ∙ c.if-in_range.true) in
    rw c.leaky.ensures (omega (arith, mul-le-mul r.eight (leaky-most _ r.most)))

pub returns-then-in_range : goal.returns-then-in_range
unfolding masks_len
returns-then-in_range c = rw (c.leaky.ensures, sym c.in_range.ensures ∙ c.if-in_range.true) refl

pub returns-else-in_range : goal.returns-else-in_range
unfolding masks_len
returns-else-in_range c = rw (sym c.in_range.ensures ∙ c.if-in_range.false) refl
