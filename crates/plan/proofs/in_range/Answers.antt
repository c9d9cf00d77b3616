-- `plan::in_range` meets its contract.
use Rattle.lists.specs.Kit.{refl}
use Rattle.plan.specs.Plan.{in_range}
use Rattle.plan.proofs.in_range.Goals as goal

pub returns : goal.returns
unfolding in_range
returns c = rw c.parties.ensures refl
