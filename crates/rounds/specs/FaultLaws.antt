-- What a content check answers: a number and a party. A loop that stops at the first fault, party by party or item by item, finds what
-- `by_party` and `first_of` say.
use Rattle.std.specs.Prelude.{◌≡◌, ⊤, Result, Ok, Err, Bool, ◌≢◌}
use Rattle.refusals.specs.declared.Reason.{Reason}
use Rattle.refusals.specs.Reason.{number, number-some}
use Rattle.engine.specs.declared.Refusal.{Refusal}
use Rattle.std.proofs.Math.Path.{refl, sym, ap, subst}
use Rattle.std.proofs.Common.{ap₂, ◌∙◌, le_refl, add-one, arith}
use Rattle.std.proofs.Math.Bool.{true, false}
use Prim.Native.Nat.{ℕ, zero, suc, ◌+◌, ◌<◌}
use Rattle.std.proofs.Math.Dec.{ltb}
use borrow.Author.Tests.{ltb-true, ltb-false}
use Rattle.lists.specs.Pick.{pick}
use Rattle.algebra.specs.Sum.{neq, neq-true}
use Rattle.engine.specs.Step.{Fault, frame, or_else, scan, by_party}
use Rattle.engine.specs.StepLaws.{other-neq, or-none, or-first, or-zero, last_or, scan-ext, scan-first}
use Rattle.rounds.specs.Area.{first_of}
use Rattle.rounds.specs.MailLaws.{neq-same}

-- no fault, or the definition's number and party
abbrev pub Finds : Result ⊤ Refusal → Fault → Type 0
Finds (Ok _) e = e.code ≡ 0
Finds (Err r) e = (number r.reason ≡ e.code) × (r.party ≡ e.party)

-- the first of two faults
pub finds-one : (r : Refusal) (a b : Fault) → Finds (Err r) a → Finds (Err r) (or_else a b)
finds-one r a b h = rw (or-first a b (λ z. number-some r.reason (h.0 ∙ z))) h

pub finds-two : (v : Result ⊤ Refusal) (a b : Fault) → a.code ≡ 0 → Finds v b → Finds v (or_else a b)
finds-two v a b z h = rw (or-none a b z) h

-- ---- party by party
-- the fault of party k, none of the own number
abbrev pub fault_at : ℕ → (ℕ → ℕ) → ℕ → ℕ
fault_at i c k = pick (neq i k) (c k) 0

pub fault-own : (i k : ℕ) (c : ℕ → ℕ) → k ≡ i → 0 ≡ fault_at i c k
fault-own i k c e = ap (λ b. pick b (c k) 0) (sym (neq-same i k e))

pub fault-other : (i k x : ℕ) (c : ℕ → ℕ) → k ≢ i → x ≡ c k → x ≡ fault_at i c k
fault-other i k x c ne e = e ∙ ap (λ b. pick b (c k) 0) (sym (neq-true i k (λ q. ne (sym q))))

module _ (n i : ℕ) (c : ℕ → ℕ) where
  by-scan : (l : ℕ) → by_party (frame n l i) c ≡ scan n (fault_at i c)
  unfolding by_party
  by-scan l = scan-ext n _ _ (λ k h. ap (λ b. pick b (c k) 0) (other-neq (frame n l i) k h))

  pub clean-zero : (scan 0 (fault_at i c)).code ≡ 0
  unfolding scan
  clean-zero = refl

  -- party k has the first fault
  pub finds-first : (l k : ℕ) (r : Reason) → k < n → (scan k (fault_at i c)).code ≡ 0 → number r ≡ fault_at i c k
      → Finds (Err (record { reason = r; party = k })) (by_party (frame n l i) c)
  finds-first l k r h z e =
      let q = by-scan l ∙ scan-first n k (fault_at i c) h z (λ o. number-some r (e ∙ o)) in
      (e ∙ sym (ap (λ (a : Fault). a.code) q), sym (ap (λ (a : Fault). a.party) q))

  -- nobody has one
  pub finds-none : (l k : ℕ) → (scan k (fault_at i c)).code ≡ 0 → k ≡ n → Finds (Ok tt) (by_party (frame n l i) c)
  finds-none l k z e = ap (λ (a : Fault). a.code) (by-scan l ∙ ap (λ j. scan j (fault_at i c)) (sym e)) ∙ z

-- ---- item by item
module _ (g : ℕ → Fault) where
  pub first-zero : (first_of 0 g).code ≡ 0
  unfolding first_of
  first-zero = refl

  first-is : (n j : ℕ) → j < n → (first_of j g).code ≡ 0 → (g j).code ≢ 0 → first_of n g ≡ g j
  unfolding first_of
  first-is zero j l h e = absurd (omega arith)
  first-is (suc n) j l h e = go (ltb j n) refl (first-is n j)
    where
      go : (b : Bool) → ltb j n ≡ b → (j < n → (first_of j g).code ≡ 0 → (g j).code ≢ 0 → first_of n g ≡ g j) → or_else (first_of n g) (g n) ≡ g j
      go true q ih =
          let r : first_of n g ≡ g j = ih (ltb-true j n q) h e in
          rw r (or-first (g j) (g n) e)
      go false q ih =
          let p : j ≡ n = omega (arith, ltb-false j n q) in
          subst (λ i. or_else (first_of i g) (g i) ≡ g j) p (or-none (first_of j g) (g j) h)

  -- item j has the first fault
  pub item-first : (n j : ℕ) (r : Refusal) → j < n → (first_of j g).code ≡ 0 → Finds (Err r) (g j) → Finds (Err r) (first_of n g)
  item-first n j r l h t = subst (Finds (Err r)) (sym (first-is n j l h (λ z. number-some r.reason (t.0 ∙ z)))) t

  -- item j has none
  pub item-next : (j : ℕ) → (first_of j g).code ≡ 0 → (g j).code ≡ 0 → (first_of (j + 1) g).code ≡ 0
  unfolding first_of
  item-next j h z = rw (add-one j) (ap (λ (x : Fault). x.code) (or-none (first_of j g) (g j) h) ∙ z)

  -- no item has one
  pub item-none : (n j : ℕ) → j ≡ n → (first_of j g).code ≡ 0 → Finds (Ok tt) (first_of n g)
  item-none n j e h = subst (λ m. (first_of m g).code ≡ 0) e h

-- checks that agree on each item
pub first-ext : (c : ℕ) (g h : ℕ → Fault) → ((j : ℕ) → j < c → g j ≡ h j) → first_of c g ≡ first_of c h
unfolding first_of
first-ext zero g h e = refl
first-ext (suc c) g h e = ap₂ or_else (first-ext c g h (λ j l. e j (omega arith))) (e c (le_refl (suc c)))

pub first-none : (c : ℕ) (g : ℕ → Fault) → ((j : ℕ) → j < c → (g j).code ≡ 0) → (first_of c g).code ≡ 0
unfolding first_of
first-none zero g e = refl
first-none (suc c) g e =
    ap (λ (x : Fault). x.code) (or-none (first_of c g) (g c) (first-none c g (λ j l. e j (omega arith)))) ∙ e c (le_refl (suc c))

-- what no fault says of each item
pub first-clean : (c : ℕ) (g : ℕ → Fault) → (first_of c g).code ≡ 0 → (q : ℕ) → q < c → (g q).code ≡ 0
unfolding first_of
first-clean zero g z q h = absurd (omega arith)
first-clean (suc c) g z q h =
    let w = or-zero (first_of c g) (g c) z in
    last_or q c (λ j. (g j).code ≡ 0) h (first-clean c g w.0 q) w.1
