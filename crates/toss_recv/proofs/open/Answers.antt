use Rattle.lists.specs.Kit.{rules}
use Rattle.rounds.specs.Toss.{opening}
use Rattle.toss_recv.proofs.open.Goals as goal

pub returns : goal.returns
unfolding opening
returns c = c.by_party.ensures _ (λ k r l ne h. search rules)
