use Rattle.lists.specs.Kit.{refl}
use Rattle.interface.specs.Interface.{packed_of}
use Rattle.interface.proofs.packed.Goals as goal

pub returns : goal.returns
unfolding packed_of
returns c = refl
