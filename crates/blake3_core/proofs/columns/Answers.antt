use Rattle.blake3_core.specs.Compress.{columns}
use Rattle.blake3_core.proofs.columns.Goals as goal

pub returns : goal.returns
unfolding columns
returns c = rw (c.g-4.ensures, c.g-3.ensures, c.g-2.ensures, c.g.ensures)
