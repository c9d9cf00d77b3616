use Rattle.lists.specs.Kit.{rules}
use Rattle.fabitn_recv.proofs.check_string.Goals as goal

pub returns : goal.returns
returns c = c.by_party.ensures _ (λ k r l ne h. search rules)
