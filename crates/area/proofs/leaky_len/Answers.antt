use Rattle.lists.specs.Kit.{refl}
use Rattle.rounds.specs.Area.{leaky_len}
use Rattle.area.proofs.leaky_len.Goals as goal

pub returns : goal.returns
unfolding leaky_len
returns c = refl
