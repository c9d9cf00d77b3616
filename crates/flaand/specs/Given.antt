-- What the functions of round 15 may assume of what they are given.
use Rattle.std.specs.Prelude.{◌≡◌, List, ℕ, ◌*◌, length}
use Rattle.share.specs.Record.{record_len}
use Rattle.plan.specs.Plan.{leaky, bits_count}
use Rattle.engine.specs.declared.Frame.{Frame}
use Rattle.rounds.specs.Area.{leaky_len}
use Rattle.area.specs.Given.{Ranged}

-- the records, and the rows that `fhaand` kept of each position
pub record HalfAnds (f : Frame) (recs rows zs : List ℕ) : Type 0 where
  pub ranges : Ranged f
  pub records : length recs ≡ bits_count f.l * record_len f.n
  pub leakies : length rows ≡ leaky f.l * leaky_len f.n
  pub bits : length zs ≡ leaky f.l * 17
