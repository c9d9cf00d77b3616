use Rattle.lists.specs.Kit.{rules}
use Rattle.share.specs.Share.{shares}
use Rattle.bucket_sum.proofs.nothing.Goals as goal

pub returns : goal.returns
unfolding shares
returns c k = search rules
