use Rattle.lists.specs.Kit.{ap₂, ◌∙◌}
use Rattle.block.specs.Group.{blocks}
use Rattle.share.specs.Share.{share_at, shares}
use Rattle.share.proofs.sum_key.Goals as goal

pub returns : goal.returns
unfolding shares share_at
returns c = c.xor.ensures ∙ ap₂ blocks.op c.key_at.ensures c.key_at-2.ensures
