-- A round call by the case it falls into.
use Rattle.std.specs.Prelude.{◌≡◌, Bool, true, false, not, ◌≢◌, List, ℕ, suc, length, replicate, eqb}
use Rattle.std.proofs.Math.Path.{refl}
use Rattle.std.proofs.Common.{arith}
use borrow.Author.Tests.{eqb-true, eqb-false, eq-eqb, ne_eqb}
use Rattle.lists.specs.Pick.{pick-else}
use Rattle.lists.specs.All.{not-false}
use Rattle.engine.specs.Step.{Session, Lent, Refused, Outcome, outcome, Fault, Protocol}
use Rattle.engine.specs.Step.{lengths_due, reason_of, fault_of, ended, refused}
use Rattle.engine.specs.Step.{faulted}
use Rattle.engine.specs.Step.{accepted, round_spec}

-- ---- the three cases
zero? : (n : ℕ) (A : Type 0) → (n ≢ 0 → A) → (n ≡ 0 → A) → A
zero? n A f g = go (eqb n 0) refl
  where
    go : (b : Bool) → eqb n 0 ≡ b → A
    go true e = g (eqb-true n 0 e)
    go false e = f (eqb-false n 0 e)

module _ (P : Protocol) (s : Session) (k : ℕ) (q : Lent) (w : List ℕ) where
  abbrev reason : ℕ
  reason = reason_of P s k q w

  abbrev fault : Fault
  fault = fault_of (P.rule k) s.party q w

  -- a call that has a reason leaves session, work area and outgoing buffer as they were
  pub round-refuses : reason_of P s k q w ≢ 0
      → round_spec P s k q w ≡ outcome s (Refused (reason_of P s k q w) s.party.i) w q.out
  unfolding round_spec refused
  round-refuses ne = rw (ne_eqb (reason_of P s k q w) 0 ne) refl

  -- a received fault ends the session, zeroes the work area, and leaves the outgoing buffer as it was
  pub round-faults : reason_of P s k q w ≡ 0 → (fault_of (P.rule k) s.party q w).code ≢ 0
      → (let e : Fault = fault_of (P.rule k) s.party q w in
      round_spec P s k q w ≡ outcome (ended s) (Refused e.code e.party) (replicate (length w) 0) q.out)
  unfolding round_spec faulted
  round-faults z ne = rw (eq-eqb (reason_of P s k q w) 0 z, ne_eqb (fault_of (P.rule k) s.party q w).code 0 ne) refl

  pub round-accepts : reason_of P s k q w ≡ 0 → (fault_of (P.rule k) s.party q w).code ≡ 0 → round_spec P s k q w ≡ accepted P s k q w
  unfolding round_spec
  round-accepts z f = rw (eq-eqb (reason_of P s k q w) 0 z, eq-eqb (fault_of (P.rule k) s.party q w).code 0 f) refl

  pub round-cases : (Q : Outcome → Type 0)
      → (reason_of P s k q w ≢ 0 → Q (outcome s (Refused (reason_of P s k q w) s.party.i) w q.out))
      → (reason_of P s k q w ≡ 0 → (fault_of (P.rule k) s.party q w).code ≢ 0 → Q (round_spec P s k q w))
      → (reason_of P s k q w ≡ 0 → (fault_of (P.rule k) s.party q w).code ≡ 0 → Q (accepted P s k q w))
      → Q (round_spec P s k q w)
  round-cases Q refuses faults accepts =
      zero? reason (Q (round_spec P s k q w)) (λ ne. rw (round-refuses ne) (refuses ne))
      (λ z. zero? fault.code (Q (round_spec P s k q w)) (faults z) (λ f. rw (round-accepts z f) (accepts z f)))

-- ---- the reasons
not-zero : (n : ℕ) → ◌≡◌ {A = ℕ} (suc n) 0 → ⊥
not-zero n z = omega arith

-- a call with no reason is for the round that is due, in a session that is alive
pub record Due (P : Protocol) (s : Session) (k : ℕ) (q : Lent) : Type 0 where
  pub alive : P.alive s ≡ true
  pub number : k ≡ s.due
  pub lent : (P.rule k).lent s.party.n s.party.l q.loan ≡ 0

module _ (P : Protocol) (s : Session) (k : ℕ) (q : Lent) (w : List ℕ) where
  -- a session that is done or ended answers 20 to any call
  pub over-20 : P.alive s ≡ false → round_spec P s k q w ≡ outcome s (Refused 20 s.party.i) w q.out
  unfolding round_spec reason_of refused
  over-20 h = rw h refl

  -- one that is alive answers 19 to a call for another round
  pub other-19 : P.alive s ≡ true → k ≢ s.due → round_spec P s k q w ≡ outcome s (Refused 19 s.party.i) w q.out
  unfolding round_spec reason_of refused
  other-19 h ne = rw (h, ne_eqb k s.due ne) refl

  pub due_of_lem : reason_of P s k q w ≡ 0 → Due P s k q
  unfolding reason_of
  due_of_lem h =
      let e1 = pick-else (not (P.alive s)) _ _ _ (not-zero 19) h in
      let e2 = pick-else (not (eqb k s.due)) _ _ _ (not-zero 18) e1.1 in
      let e3 =
      pick-else (not (lengths_due (P.work_len s.party) ((P.rule k).out_len s.party) s.party q w)) _ _ _ (not-zero 16) e2.1 in
      record { alive = not-false _ e1.0; number = eqb-true _ _ (not-false _ e2.0); lent = e3.1 }

  -- what a call needs to have no reason
  pub no-reason : P.alive s ≡ true → k ≡ s.due
      → lengths_due (P.work_len s.party) ((P.rule k).out_len s.party) s.party q w ≡ true
      → (P.rule k).lent s.party.n s.party.l q.loan ≡ 0 → reason_of P s k q w ≡ 0
  unfolding reason_of
  no-reason a e z g = rw (a, eq-eqb k s.due e, z) g
