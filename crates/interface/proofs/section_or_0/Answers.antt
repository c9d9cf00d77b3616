use Rattle.lists.specs.Kit.{refl, sym, ◌∙◌}
use Rattle.plan.specs.PlanLaws.{in-range-true}
use Rattle.interface.proofs.section_or_0.Goals as goal

pub section_at-requires : goal.section_at-requires
section_at-requires c =
    record { in_range = in-range-true c.args.n c.args.l (sym c.in_range.ensures ∙ c.if-in_range.true); s_bound = c.requires }

pub returns-then-in_range : goal.returns-then-in_range
returns-then-in_range c = rw (sym c.in_range.ensures, c.if-in_range.true) c.section_at.ensures

pub returns-else-in_range : goal.returns-else-in_range
returns-else-in_range c = rw (sym c.in_range.ensures, c.if-in_range.false) refl
