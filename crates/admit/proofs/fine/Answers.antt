-- `admit::fine` meets its contract.
use mathlib.Core.Path.{refl}
use Rattle.rounds.specs.Table.{fine}
use Rattle.admit.proofs.fine.Goals as goal

pub returns : goal.returns
unfolding fine
returns c = refl
