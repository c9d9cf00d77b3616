-- As `compress`: seven rounds, from the words of the lane's block.
use Rattle.std.specs.Prelude.{◌*◌}
use Rattle.lists.specs.Sect.{get-rest}
use Rattle.blake3_chunks.specs.Chunks.{pressed}
use Rattle.blake3_chunks.proofs.lane.Goals as goal

pub returns : goal.returns
unfolding pressed
returns c = rw (c.fold.ensures, c.rounds.ensures, c.state-v.ensures, c.whole-m.ensures, get-rest (64 * c.args.k) c.args.chunk.now)
