-- `plan::parties` meets its contract.
use mathlib.Core.Path.{refl}
use Rattle.plan.specs.Plan.{parties?}
use Rattle.plan.proofs.parties.Goals as goal

pub returns : goal.returns
unfolding parties?
returns c = refl
