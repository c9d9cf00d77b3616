use Rattle.blake3_core.specs.Compress.{round}
use Rattle.blake3_core.proofs.round.Goals as goal

pub returns-clause-state : goal.returns-clause-state
unfolding round
returns-clause-state c = rw (c.diagonals.ensures, c.columns.ensures)
