-- `plan::writes` meets its contract.
use Rattle.std.specs.Prelude.{◌||◌}
use Rattle.lists.specs.Kit.{refl, sym, ap, ◌∙◌}
use lib.Dec.{eqb}
use Rattle.plan.specs.Plan.{writes}
use Rattle.plan.proofs.writes.Goals as goal

pub returns-then-k-is_round : goal.returns-then-k-is_round
unfolding writes
returns-then-k-is_round c =
    c.next_round.ensures ∙ rw (sym (ap (λ b. eqb c.args.k 0 || b) c.is_round.ensures) ∙ c.if-k-is_round.true) refl

pub returns-else-k-is_round : goal.returns-else-k-is_round
unfolding writes
returns-else-k-is_round c = rw (sym (ap (λ b. eqb c.args.k 0 || b) c.is_round.ensures) ∙ c.if-k-is_round.false) refl
