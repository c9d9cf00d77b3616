-- What a function of a round may assume of what it is given: the numbers of a session that was opened, its work area, and where a section
-- lies in it.
use Rattle.std.specs.Prelude.{◌≡◌, List, ℕ, ◌+◌, ◌<◌, length}
use Rattle.plan.specs.Plan.{InRange}
use Rattle.engine.specs.declared.Frame.{Frame}
use Rattle.engine.specs.Area.{off}
use Rattle.rounds.specs.Area.{size_of, work_len}

-- box i of n, with l
pub record Ranged (f : Frame) : Type 0 where
  pub own : f.i < f.n
  pub range : InRange f.n f.l

-- its work area
pub record Work (f : Frame) (w : List ℕ) : Type 0 where
  pub ranges : Ranged f
  pub whole : length w ≡ work_len f

-- a is where section s starts in it
abbrev pub Starts : Frame → ℕ → ℕ → Type 0
Starts f s a = a ≡ off (size_of f) s

-- section s lies from a to e
pub record Place (f : Frame) (s a e : ℕ) : Type 0 where
  pub starts : a ≡ off (size_of f) s
  pub ends : e ≡ a + size_of f s
