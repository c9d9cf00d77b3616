-- The test whether two lists of numbers are equal.
use Rattle.std.specs.Prelude.{◌≡◌, refl, Bool, true, false, ◌&&◌, List, [], ◌∷◌, ◌++◌, ℕ, zero, suc, ◌+◌, ◌*◌, ◌<◌, ◌≤◌, length, take, drop, eqb}
use Rattle.std.proofs.Common.{sym, ap, ap₂, ◌∙◌, subst, zero-mul, suc-mul, arith, take-add, length-take-le, eq-eqb, eqb-true}
use Rattle.lists.specs.All.{all_of, true-false, and_assoc}
use Rattle.lists.specs.Over.{cat, length-cat}

unfoldable pub same? : List ℕ → List ℕ → Bool
same? [] [] = true
same? [] (b ∷ m) = false
same? (a ∷ l) [] = false
same? (a ∷ l) (b ∷ m) = eqb a b && same? l m

pub same_refl : (l : List ℕ) → same? l l ≡ true
unfolding same?
same_refl [] = refl
same_refl (a ∷ l) = ap₂ ◌&&◌ (eq-eqb a a refl) (same_refl l)

pub same_true : (a b : List ℕ) → same? a b ≡ true → a ≡ b
unfolding same?
same_true [] [] h = refl
same_true [] (b ∷ m) h = absurd (true-false (sym h))
same_true (a ∷ l) [] h = absurd (true-false (sym h))
same_true (a ∷ l) (b ∷ m) h = go (eqb a b) refl h (same_true l m)
  where
    go : (s : Bool) → eqb a b ≡ s → (s && same? l m) ≡ true → (same? l m ≡ true → l ≡ m) → (a ∷ l) ≡ (b ∷ m)
    go true e h ih = ap₂ (λ x (y : List ℕ). x ∷ y) (eqb-true a b e) (ih h)
    go false e h ih = absurd (true-false (sym h))

pub same-eq : (a b : List ℕ) → a ≡ b → same? a b ≡ true
same-eq a b e = subst (λ x. same? a x ≡ true) e (same_refl a)

pub same_false : (a b : List ℕ) → same? a b ≡ false → a ≡ b → ⊥
same_false a b h e = true-false (sym (same-eq a b e) ∙ h)

pub same-comm : (a b : List ℕ) → same? a b ≡ same? b a
same-comm a b = go (same? a b) refl (same? b a) refl
  where
    go : (s : Bool) → same? a b ≡ s → (t : Bool) → same? b a ≡ t → s ≡ t
    go true e true f = refl
    go true e false f = absurd (same_false b a f (sym (same_true a b e)))
    go false e true f = absurd (same_false a b e (sym (same_true b a f)))
    go false e false f = refl

-- ---- lists that are compared part by part
pub same-append : (a b x y : List ℕ) → length a ≡ length b → same? (a ++ x) (b ++ y) ≡ (same? a b && same? x y)
unfolding same?
same-append [] [] x y h = refl
same-append [] (b ∷ m) x y h = absurd (omega arith)
same-append (a ∷ l) [] x y h = absurd (omega arith)
same-append (a ∷ l) (b ∷ m) x y h =
    ap (λ (t : Bool). eqb a b && t) (same-append l m x y (omega arith)) ∙ sym (and_assoc (eqb a b) (same? l m) (same? x y))

-- chunks of m
pub same-cat : (n m : ℕ) (g : ℕ → List ℕ) (y : List ℕ) → ((j : ℕ) → j < n → length (g j) ≡ m) → n * m ≤ length y
    → same? (cat n g) (take (n * m) y) ≡ all_of n (λ q. same? (g q) (take m (drop (q * m) y)))
unfolding cat all_of same?
same-cat zero m g y h w = ap (λ j. same? [] (take j y)) (zero-mul m)
same-cat (suc n) m g y h w =
    let k : suc n * m ≡ n * m + m = suc-mul n m in
    let long : length (cat n g) ≡ length (take (n * m) y) =
    length-cat n m g (λ j l. h j (omega arith)) ∙ sym (length-take-le (n * m) y (omega arith)) in
    ap (same? (cat n g ++ g n)) (ap (λ j. take j y) k ∙ take-add (n * m) m y)
    ∙ same-append (cat n g) (take (n * m) y) (g n) (take m (drop (n * m) y)) long
    ∙ ap (λ (t : Bool). t && same? (g n) (take m (drop (n * m) y))) (same-cat n m g y (λ j l. h j (omega arith)) (omega arith))
