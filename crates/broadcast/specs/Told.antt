-- What a verdict says, as a fault, and what of it waits for the echo.
use Rattle.std.specs.Prelude.{◌≡◌, ◌≢◌, ⊤, Result, Ok, Err, ℕ, ◌<◌, ◌≤◌, eqb, [], ◌∷◌}
use Rattle.lists.specs.Kit.{refl, ap₂, ◌∙◌, arith}
use Rattle.lists.specs.Pick.{pick}
use Rattle.refusals.specs.Reason.{number, number-some}
use Rattle.engine.specs.declared.Refusal.{Refusal}
use Rattle.engine.specs.Step.{Fault, none?}
use Rattle.engine.specs.Plain.{waits}
use Rattle.rounds.specs.FaultLaws.{Finds}

abbrev pub told : Result ⊤ Refusal → Fault
told (Ok _) = none?
told (Err r) = record { code = number r.reason; party = r.party }

-- the party that it names, if it refuses, is below n
abbrev pub Names : Result ⊤ Refusal → ℕ → Type 0
Names (Ok _) n = ⊤
Names (Err r) n = r.party < n

-- what waits is the fault that was found
pub waits-told : (v : Result ⊤ Refusal) (e : Fault) → Finds v e → waits (told v) ≡ waits e
unfolding waits
waits-told (Ok _) e h = rw h refl
waits-told (Err r) e h = ap₂ (λ c p. pick (eqb c 0) (0 ∷ 0 ∷ []) (c ∷ p ∷ [])) h.0 h.1

-- it names a party below n, as the fault does
pub names-told : (n : ℕ) (v : Result ⊤ Refusal) (e : Fault) → Finds v e → (e.code ≢ 0 → e.party < n) → Names v n
names-told n (Ok _) e h q = tt
names-told n (Err r) e h q = rw h.1 (q (λ z. number-some r.reason (h.0 ∙ z)))

pub names-most : (v : Result ⊤ Refusal) (n m : ℕ) → Names v n → n ≤ m → Names v m
names-most (Ok _) n m h l = tt
names-most (Err r) n m h l = omega arith
