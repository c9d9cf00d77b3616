-- What `copy` leaves where the two are as long as each other.
use Rattle.std.specs.Prelude.{◌≡◌, List, ℕ, length, take}
use Rattle.std.proofs.Common.{◌∙◌, arith, take_all}

pub copied : (out s x : List ℕ) → length out ≡ length s → x ≡ take (length out) s → x ≡ s
copied out s x h e = e ∙ take_all (length out) s (omega arith)
