-- A round call by the case it falls into.
use Rattle.std.specs.Prelude.{◌≡◌, Bool, true, false, ◌&&◌, ◌≢◌, List, [], ℕ, zero, suc, ◌+◌, ◌<◌, ◌≤◌, length, get_or, ltb, eqb}
use Rattle.std.proofs.Math.Path.{refl, fun_ext}
use Rattle.std.proofs.Common.{sym, ap, ap₂, ◌∙◌, subst, le_refl, add-one, arith}
use borrow.Author.Tests.{ltb-true, ltb-false, eqb-true, eqb-false, eq-eqb, ne_eqb, lt-ltb, le-leb}
use Rattle.lists.specs.Pick.{pick, pick-else}
use Rattle.lists.specs.All.{all_of_lem}
use Rattle.algebra.specs.Sum.{neq, neq-true, apart?, Same, apart}
use Rattle.engine.specs.Step.{Frame, Lent, Fault, Rule, other, mask, gone, part}
use Rattle.engine.specs.Step.{inside, parts_in, lengths_due, or_else, scan, by_party, form_fault, fault_of}

-- ---- other parties
-- below n, another party is one of another number
pub other-neq : (f : Frame) (k : ℕ) → k < f.n → other f k ≡ neq f.i k
unfolding other
other-neq f k h = ap (λ b. neq f.i k && b) (lt-ltb k f.n h) ∙ and-true (neq f.i k)
  where
    and-true : (b : Bool) → (b && true) ≡ b
    and-true true = refl
    and-true false = refl

pub other-is : (f : Frame) (j : ℕ) → j < f.n → f.i ≢ j → other f j ≡ true
unfolding other
other-is f j l ne = ap₂ ◌&&◌ (neq-true f.i j ne) (lt-ltb j f.n l)

-- a claim on every party is shown for another one, and for the rest
pub other-cases : (f : Frame) (j : ℕ) (Q : Bool → Type 0) → (j < f.n → f.i ≢ j → Q true) → Q false → Q (other f j)
unfolding other
other-cases f j Q h z = go (neq f.i j) (apart? f.i j) (ltb j f.n) refl
  where
    go : (p : Bool) → Same f.i j p → (b : Bool) → ltb j f.n ≡ b → Q (p && b)
    go false s b e = z
    go true (apart ne) true e = h (ltb-true j f.n e) ne
    go true (apart ne) false e = z

-- what is masked depends on the others' messages alone
pub mask-ext : (f : Frame) (m m' : ℕ → List ℕ) → ((j : ℕ) → j < f.n → f.i ≢ j → m j ≡ m' j) → mask f m ≡ mask f m'
unfolding mask
mask-ext f m m' h = fun_ext (λ j. other-cases f j (λ b. pick b (m j) [] ≡ pick b (m' j) []) (λ l ne. h j l ne) refl)

pub mask_at : (f : Frame) (m : ℕ → List ℕ) (j : ℕ) → j < f.n → f.i ≢ j → mask f m j ≡ m j
unfolding mask
mask_at f m j l ne = rw (other-is f j l ne)

-- ---- faults
pub or-none : (a b : Fault) → a.code ≡ 0 → or_else a b ≡ b
unfolding or_else
or-none a b h = rw (eq-eqb a.code 0 h) refl

pub or-first : (a b : Fault) → a.code ≢ 0 → or_else a b ≡ a
unfolding or_else
or-first a b h = rw (ne_eqb a.code 0 h) refl

pub scan-ext : (n : ℕ) (c d : ℕ → ℕ) → ((k : ℕ) → k < n → c k ≡ d k) → scan n c ≡ scan n d
unfolding scan
scan-ext zero c d h = refl
scan-ext (suc n) c d h =
    ap₂ (λ (a : Fault) e. or_else a (record { code = e; party = n })) (scan-ext n c d (λ k l. h k (omega arith))) (h n (omega arith))

pub scan-none : (n : ℕ) (c : ℕ → ℕ) → ((j : ℕ) → j < n → c j ≡ 0) → (scan n c).code ≡ 0
unfolding scan
scan-none zero c h = refl
scan-none (suc n) c h =
    ap (λ (e : Fault). e.code) (or-none (scan n c) (record { code = c n; party = n }) (scan-none n c (λ j l. h j (omega arith))))
    ∙ h n (le_refl (suc n))

-- a loop that counts up and stops at the first fault
pub scan-turn : (j : ℕ) (c : ℕ → ℕ) → (scan j c).code ≡ 0 → c j ≡ 0 → (scan (j + 1) c).code ≡ 0
unfolding scan
scan-turn j c h e = rw (add-one j) (ap (λ (x : Fault). x.code) (or-none (scan j c) (record { code = c j; party = j }) h) ∙ e)

pub scan-first : (n j : ℕ) (c : ℕ → ℕ) → j < n → (scan j c).code ≡ 0 → c j ≢ 0 → scan n c ≡ record { code = c j; party = j }
unfolding scan
scan-first zero j c l h e = absurd (omega arith)
scan-first (suc n) j c l h e = go (ltb j n) refl (scan-first n j c)
  where
    go : (b : Bool) → ltb j n ≡ b → (j < n → (scan j c).code ≡ 0 → c j ≢ 0 → scan n c ≡ record { code = c j; party = j })
        → or_else (scan n c) (record { code = c n; party = n }) ≡ record { code = c j; party = j }
    go true q ih =
        let r : scan n c ≡ record { code = c j; party = j } = ih (ltb-true j n q) h e in
        rw r (or-first (record { code = c j; party = j }) (record { code = c n; party = n }) e)
    go false q ih =
        let p : j ≡ n = omega (arith, ltb-false j n q) in
        subst (λ i. or_else (scan i c) (record { code = c i; party = i }) ≡ record { code = c j; party = j }) p
        (or-none (scan j c) (record { code = c j; party = j }) h)

pub by-none : (f : Frame) (c : ℕ → ℕ) → ((k : ℕ) → k < f.n → f.i ≢ k → c k ≡ 0) → (by_party f c).code ≡ 0
unfolding by_party
by-none f c h = scan-none f.n _ (λ k l. other-cases f k (λ b. pick b (c k) 0 ≡ 0) (λ l' ne. h k l' ne) refl)

-- ---- what no fault says
pub or-zero : (a b : Fault) → (or_else a b).code ≡ 0 → (a.code ≡ 0) × (b.code ≡ 0)
unfolding or_else
or-zero a b h = go (eqb a.code 0) refl h
  where
    go : (t : Bool) → eqb a.code 0 ≡ t → (pick t b a).code ≡ 0 → (a.code ≡ 0) × (b.code ≡ 0)
    go true e z = (eqb-true a.code 0 e, z)
    go false e z = absurd (eqb-false a.code 0 e z)

-- a claim on a number below n + 1: it is below n, or is n
pub last_or : (q n : ℕ) (Q : ℕ → Type 0) → q < suc n → (q < n → Q q) → Q n → Q q
last_or q n Q h before last = go (ltb q n) refl
  where
    go : (b : Bool) → ltb q n ≡ b → Q q
    go true e = before (ltb-true q n e)
    go false e = subst Q (let w : n ≡ q = omega (arith, ltb-false q n e) in w) last

scan-clean : (n : ℕ) (c : ℕ → ℕ) → (scan n c).code ≡ 0 → (k : ℕ) → k < n → c k ≡ 0
unfolding scan
scan-clean zero c z k h = absurd (omega arith)
scan-clean (suc n) c z k h =
    let w = or-zero (scan n c) (record { code = c n; party = n }) z in
    last_or k n (λ j. c j ≡ 0) h (scan-clean n c w.0 k) w.1

-- checks that agree on the others
pub by-ext : (f : Frame) (c d : ℕ → ℕ) → ((k : ℕ) → k < f.n → f.i ≢ k → c k ≡ d k) → by_party f c ≡ by_party f d
unfolding by_party
by-ext f c d h = scan-ext f.n _ _ (λ k l. other-cases f k (λ b. pick b (c k) 0 ≡ pick b (d k) 0) (λ l' ne. h k l' ne) refl)

pub by-clean : (f : Frame) (c : ℕ → ℕ) → (by_party f c).code ≡ 0 → (k : ℕ) → k < f.n → f.i ≢ k → c k ≡ 0
unfolding by_party
by-clean f c z k h ne =
    sym (ap (λ b. pick b (c k) 0) (other-is f k h ne)) ∙ scan-clean f.n (λ k. pick (other f k) (c k) 0) z k h

-- no fault: every other message is well formed, and the check passes
pub fault-clean : (R : Rule) (f : Frame) (q : Lent) (w : List ℕ) → (fault_of R f q w).code ≡ 0
    → ((j : ℕ) → j < f.n → f.i ≢ j → R.form f (part q j) ≡ 0) × ((R.check f q.loan w (mask f (part q))).code ≡ 0)
unfolding fault_of form_fault
fault-clean R f q w z =
    let v = or-zero (by_party f (form_fault R f q)) (R.check f q.loan w (mask f (part q))) z in
    (λ j l ne. (pick-else (gone q j) 14 (R.form f (part q j)) 0 (λ e. omega arith) (by-clean f (form_fault R f q) v.0 j l ne)).1, v.1)

-- no fault: every other message is there and well formed, and the check passes
pub no-fault : (R : Rule) (f : Frame) (q : Lent) (w : List ℕ)
    → ((j : ℕ) → j < f.n → f.i ≢ j → (gone q j ≡ false) × (R.form f (part q j) ≡ 0))
    → (R.check f q.loan w (mask f (part q))).code ≡ 0 → (fault_of R f q w).code ≡ 0
unfolding fault_of form_fault
no-fault R f q w h c =
    ap (λ (e : Fault). e.code)
    (or-none (by_party f (form_fault R f q)) (R.check f q.loan w (mask f (part q)))
    (by-none f (form_fault R f q) (λ j l ne. ap (λ b. pick b 14 (R.form f (part q j))) (h j l ne).0 ∙ (h j l ne).1)))
    ∙ c

-- ---- lengths
pub lengths-hold : (a b : ℕ) (f : Frame) (q : Lent) (w : List ℕ) → length w ≡ a → length q.out ≡ b → length q.starts ≡ f.n
    → length q.lens ≡ f.n → length q.missing ≡ f.n
    → ((k : ℕ) → k < f.n → get_or q.starts k 0 + get_or q.lens k 0 ≤ length q.incoming) → lengths_due a b f q w ≡ true
unfolding lengths_due parts_in inside
lengths-hold a b f q w h1 h2 h3 h4 h5 h6 =
    simp (
      eq-eqb (length w) a h1,
      eq-eqb (length q.out) b h2,
      eq-eqb (length q.starts) f.n h3,
      eq-eqb (length q.lens) f.n h4,
      eq-eqb (length q.missing) f.n h5,
    )
    (all_of_lem f.n _ (λ k l. other-cases f k (λ t. pick t (pick (gone q k) true (inside q k)) true ≡ true)
    (λ l' ne. either (gone q k) (inside q k) (le-leb _ _ (h6 k l))) refl))
  where
    either : (t u : Bool) → u ≡ true → pick t true u ≡ true
    either true u e = refl
    either false u e = e
