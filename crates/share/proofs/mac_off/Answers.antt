use Rattle.lists.specs.Kit.{arith}
use Rattle.share.specs.Layout.{mac_off}
use Rattle.share.proofs.mac_off.Goals as goal

pub returns : goal.returns
unfolding mac_off
returns c = omega arith
