-- The three ways that a round call ends, against `round_spec`.
use Rattle.refusals.specs.Reason.{number, number-some}
use Rattle.engine.specs.declared.Refusal.{Refusal}
use Rattle.std.specs.Prelude.{◌≡◌, ◌≢◌, Err, length, replicate, eqb}
use Rattle.std.proofs.Math.Path.{refl, sym, ap, ap₂}
use Rattle.std.proofs.Common.{◌∙◌, eq-eqb, ne_eqb}
use mathlib.Core.List.{List}
use Prim.Native.Nat.{ℕ}
use Rattle.batches.specs.Batches.{told, untold}
use Rattle.plan.specs.Plan.{next_round}
use Rattle.engine.specs.declared.Session.{Session}
use Rattle.engine.specs.Step.{Lent, Accepted, Refused, leaves, outcome, told_after, mask, part, reason_of, fault_of, ended, refused}
use Rattle.engine.specs.Step.{faulted, accepted}
use Rattle.engine.specs.Step.{round_spec}
use Rattle.engine.proofs.RoundLaws.{round-refuses, round-faults, round-accepts}
use Rattle.engine.specs.Plain.{next_of, rule_of, protocol_of, keep_of, write_of}
use Rattle.rounds.specs.FaultLaws.{Finds}
use Rattle.rounds.specs.Table.{table}

-- what is answered of the batches
module _ (due : ℕ) (counts : List ℕ) where
  pub told-last : (t : List ℕ) → due ≡ 0 → t ≡ told counts → t ≡ told_after due counts
  unfolding told_after
  told-last t e h = rw (eq-eqb due 0 e) h

  pub told-other : due ≢ 0 → untold ≡ told_after due counts
  unfolding told_after
  told-other ne = rw (ne_eqb due 0 ne) refl

module _ (s : Session) (k : ℕ) (q : Lent) (w : List ℕ) where
  -- refused, and all as it was
  pub call-refused : (code : ℕ) → code ≡ reason_of (protocol_of table) s k q w → code ≢ 0
      → outcome s (Refused code s.party.i) w q.out ≡ round_spec (protocol_of table) s k q w
  unfolding refused
  call-refused code e ne =
      ap (λ c. outcome s (Refused c s.party.i) w q.out) e ∙ sym (round-refuses (protocol_of table) s k q w (λ z. ne (e ∙ z)))

  module _ (z : reason_of (protocol_of table) s k q w ≡ 0) where
    -- a received fault
    pub call-faulted : (r : Refusal) (t : Session) (v : List ℕ) → Finds (Err r) (fault_of (rule_of table k) s.party q w)
        → t ≡ ended s → v ≡ replicate (length w) 0
        → outcome t (Refused (number r.reason) r.party) v q.out ≡ round_spec (protocol_of table) s k q w
    unfolding faulted
    call-faulted r t v h et ev =
        let bad : (fault_of (rule_of table k) s.party q w).code ≢ 0 = λ x. number-some r.reason (h.0 ∙ x) in
        ap₂ (λ (a : Session) (b : List ℕ). outcome a (Refused (number r.reason) r.party) b q.out) et ev
        ∙ ap₂ (λ c p. outcome (ended s) (Refused c p) (replicate (length w) 0) q.out) h.0 h.1
        ∙ sym (round-faults (protocol_of table) s k q w z bad)

    -- accepted
    pub call-accepted : (fault_of (rule_of table k) s.party q w).code ≡ 0 → (next : ℕ) → next ≡ next_round s.party.n k
        → (t : List ℕ) → t ≡ told_after next s.counts → (m : ℕ → List ℕ) → m ≡ mask s.party (part q) → (v o : List ℕ)
        → v ≡ keep_of table k s.party q.loan w m → o ≡ write_of table k s.party q.loan w m
        → leaves (record { party = s.party; due = next; counts = s.counts }) Accepted t v o ≡ round_spec (protocol_of table) s k q w
    unfolding accepted
    call-accepted y next e t et m em v o ev eo =
        let d : ℕ = next_of table (eqb s.party.n 2) k in
        ap₂ (λ d u. leaves (record { party = s.party; due = d; counts = s.counts }) Accepted u v o) e (et
        ∙ ap (λ d. told_after d s.counts) e)
        ∙ ap₂ (λ (a b : List ℕ). leaves (record { party = s.party; due = d; counts = s.counts }) Accepted (told_after d s.counts) a b)
        (ev ∙ ap (keep_of table k s.party q.loan w) em) (eo ∙ ap (write_of table k s.party q.loan w) em)
        ∙ sym (round-accepts (protocol_of table) s k q w z y)
