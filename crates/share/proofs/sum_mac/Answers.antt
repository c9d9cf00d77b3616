use Rattle.lists.specs.Kit.{ap₂, ◌∙◌}
use Rattle.block.specs.Group.{blocks}
use Rattle.share.specs.Share.{share_at, shares}
use Rattle.share.proofs.sum_mac.Goals as goal

pub returns : goal.returns
unfolding shares share_at
returns c = c.xor.ensures ∙ ap₂ blocks.op c.mac_at.ensures c.mac_at-2.ensures
