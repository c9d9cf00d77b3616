use Rattle.blake3_core.specs.Compress.{diagonals}
use Rattle.blake3_core.proofs.diagonals.Goals as goal

pub returns : goal.returns
unfolding diagonals
returns c = rw (c.g-4.ensures, c.g-3.ensures, c.g-2.ensures, c.g.ensures)
