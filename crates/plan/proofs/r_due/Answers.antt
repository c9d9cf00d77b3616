-- `plan::r_due` meets its contract.
use Rattle.lists.specs.Kit.{refl, sym, ◌∙◌}
use borrow.Author.Tests.{ne_eqb}
use Rattle.plan.specs.Plan.{r_due}
use Rattle.plan.specs.PlanLaws.{in-range-true}
use Rattle.plan.proofs.r_due.Goals as goal

pub returns-then-writes-ne-FABITN : goal.returns-then-writes-ne-FABITN
unfolding r_due
returns-then-writes-ne-FABITN c = rw (sym c.writes.ensures, ne_eqb _ _ c.if-writes-ne-FABITN.true) refl

pub r_len-requires : goal.r_len-requires
r_len-requires c = (in-range-true _ _ (sym c.in_range.ensures ∙ c.if-in_range.true)).most

pub returns-then-in_range : goal.returns-then-in_range
unfolding r_due
returns-then-in_range c =
    rw (sym c.writes.ensures, c.if-writes-ne-FABITN.false, c.r_len.ensures, sym c.in_range.ensures ∙ c.if-in_range.true) refl

pub returns-else-in_range : goal.returns-else-in_range
unfolding r_due
returns-else-in_range c =
    rw (sym c.writes.ensures, c.if-writes-ne-FABITN.false, sym c.in_range.ensures ∙ c.if-in_range.false) refl
