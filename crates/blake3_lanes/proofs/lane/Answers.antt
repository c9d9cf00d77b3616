-- As `compress`: seven rounds, from the message words that the lane has.
use Rattle.blake3_core.specs.Compress.{compress}
use Rattle.blake3_lanes.specs.Lanes.{digest_of}
use Rattle.blake3_lanes.proofs.lane.Goals as goal

pub returns : goal.returns
unfolding digest_of compress
returns c = rw (c.fold.ensures, c.rounds.ensures, c.start-v.ensures)
