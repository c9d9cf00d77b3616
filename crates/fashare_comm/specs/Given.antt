-- What `fashare` is made from: numbers in opening's ranges, and all records of bits.
use Rattle.std.specs.Prelude.{◌≡◌, List, ℕ, ◌*◌, length}
use Rattle.share.specs.Record.{record_len}
use Rattle.plan.specs.Plan.{InRange, bits_count}
use Rattle.engine.specs.declared.Frame.{Frame}

pub record AllRecords (f : Frame) (recs : List ℕ) : Type 0 where
  pub range : InRange f.n f.l
  pub records : length recs ≡ bits_count f.l * record_len f.n
