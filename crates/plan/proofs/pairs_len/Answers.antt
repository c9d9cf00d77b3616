-- `plan::pairs_len` meets its contract.
use Rattle.lists.specs.Kit.{refl, sym, ◌∙◌, arith}
use Rattle.plan.specs.Plan.{pairs_len}
use Rattle.plan.specs.PlanLaws.{parties-true}
use Rattle.plan.proofs.pairs_len.Goals as goal

pub overflow_mul-result : goal.overflow_mul-result
overflow_mul-result c = let r = parties-true _ (sym c.parties.ensures ∙ c.if-parties.true) in omega arith

pub returns-then-parties : goal.returns-then-parties
unfolding pairs_len
returns-then-parties c = rw (sym c.parties.ensures ∙ c.if-parties.true) refl

pub returns-else-parties : goal.returns-else-parties
unfolding pairs_len
returns-else-parties c = rw (sym c.parties.ensures ∙ c.if-parties.false) refl
