-- `area::work_len` meets its contract.
use Rattle.lists.specs.Kit.{refl, sym, ◌∙◌, arith}
use Rattle.plan.specs.PlanLaws.{in-range-true}
use Rattle.rounds.specs.Area.{work_len}
use Rattle.area.proofs.work_len.Goals as goal

pub section_at-requires : goal.section_at-requires
section_at-requires c = record { in_range = in-range-true _ _ (sym c.in_range.ensures ∙ c.if-in_range.true); s_bound = omega arith }

pub returns-then-in_range : goal.returns-then-in_range
unfolding work_len
returns-then-in_range c = rw (c.section_at.ensures, sym c.in_range.ensures ∙ c.if-in_range.true) refl

pub returns-else-in_range : goal.returns-else-in_range
returns-else-in_range c = rw (sym c.in_range.ensures ∙ c.if-in_range.false) refl
