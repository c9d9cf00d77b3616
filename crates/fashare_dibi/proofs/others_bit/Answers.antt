use Rattle.lists.specs.Kit.{rules}
use Rattle.rounds.specs.Fashare.{others1}
use Rattle.fashare_dibi.proofs.others_bit.Goals as goal

pub returns : goal.returns
unfolding others1
returns c = c.sum_others.ensures _ (λ k r l ne h. search rules)
