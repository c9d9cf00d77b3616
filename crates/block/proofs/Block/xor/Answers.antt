use mathlib.Core.Path.{refl}
use Rattle.block.specs.Block.{xor_of}
use Rattle.block.specs.Group.{blocks}
use Rattle.block.proofs.Block.xor.Goals as goal

pub returns : goal.returns
unfolding blocks xor_of
returns c = refl
