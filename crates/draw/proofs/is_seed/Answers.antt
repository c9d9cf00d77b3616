use Rattle.lists.specs.Kit.{rules}
use Rattle.draw.specs.Strings.{seed?}
use Rattle.draw.proofs.is_seed.Goals as goal

pub returns : goal.returns
unfolding seed?
returns c = search rules
