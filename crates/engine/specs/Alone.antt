-- One box and any list of round calls, whatever the others sent: what its work area holds and what it wrote, of what it was opened with,
-- what it was lent and the messages that it received. What a table of rounds owes for that, and that it then holds after every list.
use Rattle.std.specs.Prelude.{Bool}
use mathlib.Core.List.{List}
use Prim.Native.Nat.{ℕ}

-- What the box holds and sends. ready t s: section s holds its value at moment t; val s: that value; sent k r: the message of round k,
-- which is no echo, to r; result: what the last call writes
pub record Tale : Type 0 where
  pub ready : ℕ → ℕ → Bool
  pub val : ℕ → List ℕ
  pub sent : ℕ → ℕ → List ℕ
  pub result : List ℕ
