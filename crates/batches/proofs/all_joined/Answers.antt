use Rattle.std.proofs.Common.{rules}
use Rattle.batches.specs.Batches.{joined}
use Rattle.batches.proofs.all_joined.Goals as goal

pub returns : goal.returns
unfolding joined
returns c = c.all_of.ensures _ (λ k r l h. search rules)
