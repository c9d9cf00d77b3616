use Rattle.lists.specs.Kit.{arith}
use Rattle.share.specs.Lent.{lent_len}
use Rattle.share.proofs.lent_len.Goals as goal

pub returns : goal.returns
unfolding lent_len
returns c = omega arith
