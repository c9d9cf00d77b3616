use Rattle.lists.specs.Kit.{arith}
use Rattle.share.specs.Layout.{record_len}
use Rattle.share.proofs.record_len.Goals as goal

pub returns : goal.returns
unfolding record_len
returns c = omega arith
