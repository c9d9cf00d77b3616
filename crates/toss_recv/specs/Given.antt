-- What the functions that serve two rounds may assume of the section that they are given.
use Rattle.std.specs.Prelude.{◌≡◌, ℕ, ◌*◌, ◌<◌}
use Rattle.engine.specs.declared.Frame.{Frame}
use Rattle.rounds.specs.Area.{SECTIONS, size_of}

-- section s has a row of 32 bytes for each party: what all others told
pub record ToldRows (f : Frame) (s : ℕ) : Type 0 where
  pub section : s < SECTIONS
  pub rows : size_of f s ≡ f.n * 32
