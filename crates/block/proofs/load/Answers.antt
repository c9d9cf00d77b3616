use Rattle.block.specs.Block.{block_at}
use Rattle.block.proofs.load.Goals as goal

pub returns : goal.returns
unfolding block_at
returns c i = record { 0 = c.load64-low.ensures i; 1 = c.load64-high.ensures i }
