use Rattle.lists.specs.Kit.{rules}
use Rattle.rounds.specs.Toss.{told_rows}
use Rattle.toss_recv.proofs.told_rows.Goals as goal

pub returns : goal.returns
unfolding told_rows
returns c = c.put_rows.ensures _ (λ k l ne row left e h. search rules)
