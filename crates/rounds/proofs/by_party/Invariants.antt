-- The loop's invariant: none of the first k parties has a fault, whatever names what the check answers.
use Rattle.std.specs.Prelude.{◌≡◌, ◌≢◌, ⊤, Result, ℕ, ◌<◌}
use Rattle.refusals.specs.declared.Reason.{Reason}
use Rattle.refusals.specs.Reason.{code_of}
use Rattle.engine.specs.Step.{scan}
use Rattle.rounds.specs.FaultLaws.{fault_at}
use Rattle.rounds.proofs.by_party.Given as goal

abbrev pub invariant-loop-k : goal.invariant-loop-k
invariant-loop-k g l =
    (c : ℕ → ℕ) → ((k : ℕ) (r : Result ⊤ Reason) → k < l.f.n → l.f.i ≢ k → goal.F-post g l.check k r → code_of r ≡ c k)
    → (scan l.k (fault_at l.f.i c)).code ≡ 0
