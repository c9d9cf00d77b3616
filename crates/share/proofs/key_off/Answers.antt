use Rattle.lists.specs.Kit.{arith}
use Rattle.share.specs.Layout.{key_off}
use Rattle.share.proofs.key_off.Goals as goal

pub returns : goal.returns
unfolding key_off
returns c = omega arith
