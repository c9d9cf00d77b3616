use Rattle.std.proofs.Common.{rules}
use Rattle.batches.specs.Batches.{filled}
use Rattle.batches.proofs.all_filled.Goals as goal

pub returns : goal.returns
unfolding filled
returns c = c.all_of.ensures _ (λ k r l h. search rules)
