-- A number read as a reason.
use Rattle.std.specs.Prelude.{◌≡◌, ◌≢◌, ℕ, Result, Ok, Err}
use Rattle.refusals.specs.declared.Reason.{Reason}
use Rattle.refusals.specs.declared.UnknownReason.{UnknownReason}
use Rattle.refusals.specs.Reason.{number}

-- the reason with this number, or none has it
abbrev pub Numbered : ℕ → Result Reason UnknownReason → Type 0
Numbered n (Ok r) = number r ≡ n
Numbered n (Err _) = (r : Reason) → number r ≢ n
