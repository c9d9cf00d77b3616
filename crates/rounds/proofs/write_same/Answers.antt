use Rattle.lists.specs.Kit.{rules}
use Rattle.engine.specs.Area.{to_others}
use Rattle.rounds.proofs.write_same.Goals as goal

pub returns : goal.returns
unfolding to_others
returns c i = c.write_rows.ensures _ (λ k l row left e h. search rules)
