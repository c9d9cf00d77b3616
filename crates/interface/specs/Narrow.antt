-- What fits the interface's 32-bit numbers, and its answers.
use Rattle.std.specs.Prelude.{◌≡◌, ℕ, ◌<◌, length}
use Rattle.batches.specs.Batches.{MOST}
use Rattle.engine.specs.declared.Session.{Session}
use Rattle.engine.specs.Step.{Reply, Accepted, Refused}

-- the numbers of a session fit; its counts do by their type
pub record Narrow (s : Session) : Type 0 where
  pub n-fits : s.party.n < 0x1_0000_0000
  pub i-fits : s.party.i < 0x1_0000_0000
  pub l-fits : s.party.l < 0x1_0000_0000
  pub due-fits : s.due < 0x1_0000_0000
  pub counts-fit : length s.counts ≡ MOST

-- the party that an answer names
abbrev pub named : Reply → ℕ
named Accepted = 0
named (Refused code party) = party
