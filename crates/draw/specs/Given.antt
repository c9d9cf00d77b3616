-- What the code asks of r.
use Rattle.std.specs.Prelude.{◌≢◌, List, ℕ, ◌*◌, ◌≤◌, length}

-- `count` Blocks are lent, or a seed
pub record Whole (count : ℕ) (r : List ℕ) : Type 0 where
  pub lent : length r ≢ 16 → count * 16 ≤ length r
