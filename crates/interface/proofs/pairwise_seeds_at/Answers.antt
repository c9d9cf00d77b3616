use Rattle.interface.specs.Interface.{pairwise_at}
use Rattle.interface.proofs.pairwise_seeds_at.Goals as goal

pub returns : goal.returns
unfolding pairwise_at
returns c = c.section_or_0.ensures
