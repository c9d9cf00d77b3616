-- What the functions of round 14 may assume of what they are given.
use Rattle.std.specs.Prelude.{◌≡◌, List, ℕ, ◌*◌, length}
use Rattle.plan.specs.Plan.{leaky}
use Rattle.engine.specs.declared.Frame.{Frame}
use Rattle.rounds.specs.Area.{BITS, LEAKY, leaky_len, at}
use Rattle.rounds.specs.Table.{delta}
use Rattle.rounds.specs.Haand.{leaky_rows}

-- what is kept of each position
pub record RowsAndMasks (f : Frame) (leakies masks : List ℕ) : Type 0 where
  pub rows : length leakies ≡ leaky f.l * leaky_len f.n
  pub bytes : length masks ≡ f.n * leaky f.l

-- what `hold` kept: the rows of LEAKY
abbrev pub LeakyKept : Frame → List ℕ → Type 0
LeakyKept f w = at f LEAKY w ≡ leaky_rows f (delta f w) (at f BITS w)
