-- `plan::name_at` meets its contract: the table is that of the definition, computed.
use Rattle.lists.specs.Kit.{refl}
use Rattle.plan.specs.Names.{ascii, padded, names}
use Rattle.plan.proofs.name_at.Goals as goal

pub returns : goal.returns
unfolding names padded ascii
returns c = refl
