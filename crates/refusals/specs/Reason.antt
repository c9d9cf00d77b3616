-- The numbers of the reasons (documents 01 and 02), and what a check answers as a number: 0 where it refuses nothing.
use Rattle.std.proofs.Common.{arith}
use Rattle.std.specs.Prelude.{◌≢◌, ⊤, ℕ, Result, Ok, Err}
pub use Rattle.refusals.specs.declared.Reason.{Reason}
use Rattle.refusals.specs.declared.Reason.TheVariants as V

abbrev pub number : Reason → ℕ
number V.InvalidBitValue = 1
number V.CommitmentCouldNotBeOpened = 2
number V.EmptyVector = 3
number V.ConversionErr = 4
number V.EmptyBucket = 5
number V.InvalidLength = 6
number V.InconsistentBroadcast = 7
number V.ABitWrongMAC = 8
number V.AShareWrongMAC = 9
number V.LaANDXorNotZero = 10
number V.AANDWrongMAC = 11
number V.BeaverWrongMAC = 12
number V.Undecodable = 13
number V.Missing = 14
number V.PartyOutOfRange = 15
number V.TooMany = 16
number V.WrongBuffer = 17
number V.NoPermutation = 18
number V.WrongRound = 19
number V.NoSession = 20
number V.TrailingBytes = 21
number V.WrongLabel = 22
number V.WrongBatches = 23

abbrev pub code_of : Result ⊤ Reason → ℕ
code_of (Ok _) = 0
code_of (Err r) = number r

-- no reason's number is 0
pub number-some : (r : Reason) → number r ≢ 0
number-some V.InvalidBitValue = λ e. omega arith
number-some V.CommitmentCouldNotBeOpened = λ e. omega arith
number-some V.EmptyVector = λ e. omega arith
number-some V.ConversionErr = λ e. omega arith
number-some V.EmptyBucket = λ e. omega arith
number-some V.InvalidLength = λ e. omega arith
number-some V.InconsistentBroadcast = λ e. omega arith
number-some V.ABitWrongMAC = λ e. omega arith
number-some V.AShareWrongMAC = λ e. omega arith
number-some V.LaANDXorNotZero = λ e. omega arith
number-some V.AANDWrongMAC = λ e. omega arith
number-some V.BeaverWrongMAC = λ e. omega arith
number-some V.Undecodable = λ e. omega arith
number-some V.Missing = λ e. omega arith
number-some V.PartyOutOfRange = λ e. omega arith
number-some V.TooMany = λ e. omega arith
number-some V.WrongBuffer = λ e. omega arith
number-some V.NoPermutation = λ e. omega arith
number-some V.WrongRound = λ e. omega arith
number-some V.NoSession = λ e. omega arith
number-some V.TrailingBytes = λ e. omega arith
number-some V.WrongLabel = λ e. omega arith
number-some V.WrongBatches = λ e. omega arith
