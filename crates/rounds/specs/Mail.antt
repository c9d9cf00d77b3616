-- The messages of a round where they lie: one incoming buffer, a start and a length for each party.
use Rattle.std.specs.Prelude.{List, ◌≢◌, ℕ, ◌+◌, ◌<◌, ◌≤◌, length, get_or}
use Rattle.lists.specs.Sect.{get}
use Rattle.engine.specs.declared.Frame.{Frame}
pub use Rattle.rounds.specs.declared.Mail.{Mail}

-- the message of party k
unfoldable pub letter : List ℕ → Mail → ℕ → List ℕ
letter incoming mail k = get (get_or mail.starts k 0) (get_or mail.lens k 0) incoming

-- what a round's call has made sure of before it looks at the content: every other party's message lies inside, and has at least `size`
-- bytes
pub record Arrived (f : Frame) (size : ℕ) (incoming : List ℕ) (mail : Mail) : Type 0 where
  pub eight : f.n ≤ 8
  pub inside : (k : ℕ) → k < f.n → f.i ≢ k → get_or mail.starts k 0 + get_or mail.lens k 0 ≤ length incoming
  pub long : (k : ℕ) → k < f.n → f.i ≢ k → size ≤ get_or mail.lens k 0
