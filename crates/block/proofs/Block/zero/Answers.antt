use mathlib.Core.Path.{refl}
use Rattle.block.specs.Block.{zero_of}
use Rattle.block.specs.Group.{blocks}
use Rattle.block.proofs.Block.zero.Goals as goal

pub returns : goal.returns
unfolding blocks zero_of
returns c = refl
