use mathlib.Core.Path.{refl}
use Rattle.block.specs.Block.{eq_block}
use Rattle.block.proofs.Block.equals.Goals as goal

pub returns : goal.returns
unfolding eq_block
returns c = refl
