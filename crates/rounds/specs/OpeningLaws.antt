-- What no fault of opening says, and what it leaves behind the inputs.
use Rattle.std.specs.Prelude.{◌≡◌, refl, Bool, true, false, ◌&&◌, ℕ, suc, ◌<◌, ◌≤◌, length, replicate, ltb, leb, eqb}
use Rattle.std.proofs.Common.{arith, ltb-true, leb-true, eqb-true, ne_eqb}
use Rattle.std.proofs.lemmas.Bool.{eqb-false}
use Rattle.lists.specs.Pick.{pick, pick-then}
use Rattle.lists.specs.All.{and_both}
use Rattle.batches.specs.Batches.{counts_fault}
use Rattle.engine.specs.declared.Frame.{Frame}
use Rattle.rounds.specs.Area.{COMMS, size_of}
use Rattle.rounds.specs.Opening.{Args, party, lists_due, buffers_due, or_fault, bytes_fault, lengths_fault, reason, section}

pub neither : (a b : ℕ) → or_fault a b ≡ 0 → (a ≡ 0) × (b ≡ 0)
unfolding or_fault
neither a b = go (eqb a 0) refl
  where
    go : (c : Bool) → eqb a 0 ≡ c → pick c b a ≡ 0 → (a ≡ 0) × (b ≡ 0)
    go true e h = (eqb-true a 0 e, h)
    go false e h = absurd (eqb-false a 0 e h)

not-zero : (k : ℕ) → ◌≡◌ {A = ℕ} (suc k) 0 → ⊥
not-zero k e = omega arith

-- the numbers and the lengths have none
pub record Within (f : Frame) (counts bits alpha beta : ℕ) (rest : Bool) : Type 0 where
  pub two : 2 ≤ f.n
  pub eight : f.n ≤ 8
  pub own : f.i < f.n
  pub none : counts ≡ 0
  pub lists : lists_due f bits alpha beta ≡ true
  pub buffers : rest ≡ true

pub within : (f : Frame) (counts bits alpha beta : ℕ) (rest : Bool) → lengths_fault f counts bits alpha beta rest ≡ 0
    → Within f counts bits alpha beta rest
unfolding lengths_fault
within f counts bits alpha beta rest h =
    let e15 = pick-then (leb 2 f.n && leb f.n 8 && ltb f.i f.n) _ _ _ (not-zero 14) h in
    let e = neither counts _ e15.1 in
    let e6 = pick-then (lists_due f bits alpha beta) _ _ _ (not-zero 5) e.1 in
    let e17 = pick-then rest _ _ _ (not-zero 16) e6.1 in
    let p = and_both (leb 2 f.n && leb f.n 8) (ltb f.i f.n) e15.0 in
    let q = and_both (leb 2 f.n) (leb f.n 8) p.0 in
    record {
      two = leb-true _ _ q.0;
      eight = leb-true _ _ q.1;
      own = ltb-true _ _ p.1;
      none = e.0;
      lists = e6.0;
      buffers = e17.0;
    }

-- an opening has no reason
pub record Passed (a : Args) : Type 0 where
  pub numbers : Within (party a) (counts_fault a.counts) (length a.bits) (length a.alpha) (length a.beta) (buffers_due a)
  pub bytes : bytes_fault a ≡ 0

pub passed : (a : Args) → reason a ≡ 0 → Passed a
unfolding reason
passed a h = let e = neither _ (bytes_fault a) h in record { numbers = within _ _ _ _ _ _ e.0; bytes = e.1 }

-- what it leaves behind the inputs is zero
pub section-zero : (a : Args) (s : ℕ) → COMMS ≤ s → section a s ≡ replicate (size_of (party a) s) 0
unfolding section
section-zero a s h =
    rw (
      ne_eqb s 0 (omega arith),
      ne_eqb s 1 (omega arith),
      ne_eqb s 2 (omega arith),
      ne_eqb s 3 (omega arith),
      ne_eqb s 4 (omega arith),
      ne_eqb s 5 (omega arith),
      ne_eqb s 6 (omega arith),
    ) refl
