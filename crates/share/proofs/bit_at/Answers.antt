use Rattle.share.specs.Record.{bit_at}
use Rattle.share.proofs.bit_at.Goals as goal

pub returns : goal.returns
unfolding bit_at
returns c = cc
