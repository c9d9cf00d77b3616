-- A test of every number below n, as a loop that counts up runs it.
use Rattle.std.specs.Prelude.{◌≡◌, refl, Bool, true, false, not, ◌&&◌, cond, ℕ, zero, suc, ◌+◌, ◌<◌, ltb}
use Rattle.std.proofs.Common.{sym, ap, ap₂, ◌∙◌, subst, le_refl, add-zero, add-one, arith, ltb-true, ltb-false}

unfoldable pub all_of : ℕ → (ℕ → Bool) → Bool
all_of zero f = true
all_of (suc n) f = all_of n f && f n

pub true-false : true ≡ false → ⊥
true-false e = subst (λ (t : Bool). cond t Unit ⊥) e tt

-- what two tests, or the negation of one, say
pub and_first : (a b : Bool) → (a && b) ≡ true → a ≡ true
and_first true b h = refl
and_first false b h = h

pub and_second : (a b : Bool) → (a && b) ≡ true → b ≡ true
and_second true b h = h
and_second false b h = absurd (true-false (sym h))

pub and_both : (a b : Bool) → (a && b) ≡ true → (a ≡ true) × (b ≡ true)
and_both a b h = (and_first a b h, and_second a b h)

pub and-false : (a : Bool) → (a && false) ≡ false
and-false true = refl
and-false false = refl

pub not-true : (b : Bool) → not b ≡ true → b ≡ false
not-true true e = sym e
not-true false e = refl

pub not-false : (b : Bool) → not b ≡ false → b ≡ true
not-false true e = refl
not-false false e = sym e

-- the loop's start and turn
pub all-zero : (f : ℕ → Bool) → all_of 0 f ≡ true
unfolding all_of
all-zero f = refl

pub all-turn : (n : ℕ) (f : ℕ → Bool) → all_of (n + 1) f ≡ (all_of n f && f n)
unfolding all_of
all-turn n f = rw (add-one n) refl

pub all_more : (f : ℕ → Bool) (n : ℕ) (ok b : Bool) → ok ≡ all_of n f → b ≡ f n → (ok && b) ≡ all_of (n + 1) f
all_more f n ok b e h = ap₂ ◌&&◌ e h ∙ sym (all-turn n f)

pub all_of_lem : (n : ℕ) (f : ℕ → Bool) → ((j : ℕ) → j < n → f j ≡ true) → all_of n f ≡ true
unfolding all_of
all_of_lem zero f h = refl
all_of_lem (suc n) f h = ap₂ ◌&&◌ (all_of_lem n f (λ j l. h j (omega arith))) (h n (le_refl (suc n)))

pub of-all : (n : ℕ) (f : ℕ → Bool) → all_of n f ≡ true → (j : ℕ) → j < n → f j ≡ true
unfolding all_of
of-all zero f h j l = absurd (omega arith)
of-all (suc n) f h j l = go (all_of n f) refl (f n) refl h (of-all n f)
  where
    go : (a : Bool) → all_of n f ≡ a → (b : Bool) → f n ≡ b → (a && b) ≡ true → (all_of n f ≡ true → (j : ℕ) → j < n → f j ≡ true)
        → f j ≡ true
    go true ea b eb h ih = last (ltb j n) refl
      where
        last : (t : Bool) → ltb j n ≡ t → f j ≡ true
        last true q = ih ea j (ltb-true j n q)
        last false q = subst (λ i. f i ≡ true) (let p : n ≡ j = omega (arith, ltb-false j n q) in p) (eb ∙ h)
    go false ea b eb h ih = absurd (true-false (sym h))

pub all-false : (n : ℕ) (f : ℕ → Bool) (j : ℕ) → j < n → f j ≡ false → all_of n f ≡ false
all-false n f j l e = go (all_of n f) refl
  where
    go : (b : Bool) → all_of n f ≡ b → b ≡ false
    go true q = absurd (true-false (sym (of-all n f q j l) ∙ e))
    go false q = refl

pub all-ext : (n : ℕ) (f g : ℕ → Bool) → ((j : ℕ) → j < n → f j ≡ g j) → all_of n f ≡ all_of n g
unfolding all_of
all-ext zero f g h = refl
all-ext (suc n) f g h = ap₂ ◌&&◌ (all-ext n f g (λ j l. h j (omega arith))) (h n (le_refl (suc n)))

pub and_assoc : (a b c : Bool) → (a && b && c) ≡ (a && (b && c))
and_assoc true b c = refl
and_assoc false b c = refl

and-true : (a : Bool) → a ≡ (a && true)
and-true true = refl
and-true false = refl

-- tests of t, then of c more
pub all-add : (f : ℕ → Bool) (t c : ℕ) → all_of (t + c) f ≡ (all_of t f && all_of c (λ q. f (t + q)))
unfolding all_of
all-add f t zero = ap (λ j. all_of j f) (add-zero t) ∙ and-true (all_of t f)
all-add f t (suc c) =
    ap (λ j. all_of j f) (let e : t + suc c ≡ suc (t + c) = omega arith in e)
    ∙ ap (λ (b : Bool). b && f (t + c)) (all-add f t c)
    ∙ and_assoc (all_of t f) (all_of c (λ q. f (t + q))) (f (t + c))
