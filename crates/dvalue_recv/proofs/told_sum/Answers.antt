use Rattle.lists.specs.Kit.{rules}
use Rattle.dvalue_recv.specs.Opened.{told_sum}
use Rattle.dvalue_recv.proofs.told_sum.Goals as goal

pub returns : goal.returns
unfolding told_sum
returns c = c.sum_others.ensures _ (λ k r l ne h. search rules)
