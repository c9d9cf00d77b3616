-- `plan::dm_len` meets its contract.
use Rattle.lists.specs.Kit.{refl}
use Rattle.plan.specs.Plan.{dm_len}
use Rattle.plan.proofs.dm_len.Goals as goal

pub returns : goal.returns
unfolding dm_len
returns c = refl
