-- `plan::bits_len` meets its contract.
use Rattle.lists.specs.Kit.{refl, sym, ◌∙◌, arith}
use native.Mathlib.Nat.{mul-le-mul}
use Rattle.share.specs.LentLaws.{lent-most}
use Rattle.plan.specs.Plan.{bits_len}
use Rattle.plan.specs.PlanLaws.{in-range-true, bits_most}
use Rattle.plan.proofs.bits_len.Goals as goal

pub bits_count-requires : goal.bits_count-requires
bits_count-requires c = (in-range-true _ _ (sym c.in_range.ensures ∙ c.if-in_range.true)).most

pub lent_len-requires : goal.lent_len-requires
lent_len-requires c = (in-range-true _ _ (sym c.in_range.ensures ∙ c.if-in_range.true)).eight

pub overflow_mul-result : goal.overflow_mul-result
overflow_mul-result c =
    let r = in-range-true _ _ (sym c.in_range.ensures ∙ c.if-in_range.true) in
    rw (c.bits_count.ensures, c.lent_len.ensures)
    (omega (arith, mul-le-mul (bits_most _ r.most) (lent-most _ r.eight)))

pub returns-then-in_range : goal.returns-then-in_range
unfolding bits_len
returns-then-in_range c = rw (c.bits_count.ensures, c.lent_len.ensures, sym c.in_range.ensures ∙ c.if-in_range.true) refl

pub returns-else-in_range : goal.returns-else-in_range
unfolding bits_len
returns-else-in_range c = rw (sym c.in_range.ensures ∙ c.if-in_range.false) refl
