use Rattle.blake3_core.specs.Compress.{compress}
use Rattle.blake3_core.proofs.compress.Goals as goal

pub returns : goal.returns
unfolding compress
returns c = cc
