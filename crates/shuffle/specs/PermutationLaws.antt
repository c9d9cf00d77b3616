-- What a permutation is good for: its entries are below, differ, and every number below its length occurs.
use Rattle.std.specs.Prelude.{◌≡◌, ◌≢◌, Bool, not, List, ℕ, zero, suc, ◌<◌, length, get_or, ltb}
use Rattle.std.proofs.Math.Path.{refl, ap₂}
use Rattle.std.proofs.Common.{sym, ap, ◌∙◌, le_refl, arith}
use Rattle.std.proofs.Math.Bool.{true, false, ◌&&◌}
use Rattle.std.proofs.Math.Dec.{eqb}
use borrow.Author.Tests.{ltb-true, ltb-false, lt-ltb, eqb-true, eqb-false, ne_eqb, not-true}
use Rattle.lists.specs.Pick.{pick}
use Rattle.lists.specs.All.{all_of_lem, of-all, and_first, and_second}
use Rattle.shuffle.specs.Permutation.{fresh, entry_ok, is_perm}

pub fresh-of : (p : List ℕ) (t x : ℕ) → ((u : ℕ) → u < t → get_or p u 0 ≡ x → ⊥) → fresh p t x ≡ true
unfolding fresh
fresh-of p t x h = all_of_lem t _ (λ u l. ap not (ne_eqb (get_or p u 0) x (h u l)))

pub of-fresh : (p : List ℕ) (t x : ℕ) → fresh p t x ≡ true → (u : ℕ) → u < t → get_or p u 0 ≡ x → ⊥
unfolding fresh
of-fresh p t x h u l = eqb-false (get_or p u 0) x (not-true _ (of-all t _ h u l))

module _ (p : List ℕ) where
  pub perm-of : ((t : ℕ) → t < length p → get_or p t 0 < length p) → ((u t : ℕ) → u < t → t < length p → get_or p u 0 ≡ get_or p t 0 → ⊥)
      → is_perm p ≡ true
  unfolding is_perm entry_ok
  perm-of low far = all_of_lem (length p) _ (λ t l. ap₂ ◌&&◌ (lt-ltb _ _ (low t l)) (fresh-of p t _ (λ u w. far u t w l)))

  module _ (h : is_perm p ≡ true) where
    pub perm-below : (t : ℕ) → t < length p → get_or p t 0 < length p
    unfolding is_perm entry_ok
    perm-below t l = ltb-true _ _ (and_first _ _ (of-all (length p) _ h t l))

    later : (u t : ℕ) → u < t → t < length p → get_or p u 0 ≡ get_or p t 0 → ⊥
    unfolding is_perm entry_ok
    later u t w l = of-fresh p t (get_or p t 0) (and_second (ltb (get_or p t 0) (length p)) _ (of-all (length p) _ h t l)) u w

    pub perm-distinct : (u t : ℕ) → u < length p → t < length p → get_or p u 0 ≡ get_or p t 0 → u ≡ t
    perm-distinct u t lu lt e = go (ltb u t) refl (ltb t u) refl
      where
        go : (a : Bool) → ltb u t ≡ a → (b : Bool) → ltb t u ≡ b → u ≡ t
        go true qa b qb = absurd (later u t (ltb-true u t qa) lt e)
        go false qa true qb = absurd (later t u (ltb-true t u qb) lu (sym e))
        go false qa false qb = omega (arith, ltb-false u t qa, ltb-false t u qb)

-- f on the first m numbers, with f m in the place of m
hide : ℕ → (ℕ → ℕ) → ℕ → ℕ
hide m f t = pick (eqb (f t) m) (f m) (f t)

module _ (m : ℕ) (f : ℕ → ℕ) (low : (t : ℕ) → t < suc m → f t < suc m) (one : (u t : ℕ) → u < suc m → t < suc m → f u ≡ f t → u ≡ t) where
  last : f m < suc m
  last = low m (le_refl (suc m))

  apart : (t : ℕ) → t < m → f t ≡ f m → ⊥
  apart t l e = let q : t ≡ m = one t m (omega arith) (le_refl (suc m)) e in omega arith

  by : {C : Type 0} (t : ℕ) → (f t ≡ m → hide m f t ≡ f m → C) → (f t ≢ m → hide m f t ≡ f t → C) → C
  unfolding hide
  by {C} t hit miss = go (eqb (f t) m) refl
    where
      go : (b : Bool) → eqb (f t) m ≡ b → C
      go true e = hit (eqb-true (f t) m e) (ap (λ b. pick b (f m) (f t)) e)
      go false e = miss (eqb-false (f t) m e) (ap (λ b. pick b (f m) (f t)) e)

  hide-low : (t : ℕ) → t < m → hide m f t < m
  hide-low t l = by t
      (λ e q. let n : f m ≢ m = λ r. apart t l (e ∙ sym r) in omega (arith, last))
      (λ n q. omega (arith, low t (omega arith)))

  hide-one : (u t : ℕ) → u < m → t < m → hide m f u ≡ hide m f t → u ≡ t
  hide-one u t lu lt h = by u
      (λ eu qu. by t
      (λ et qt. one u t (omega arith) (omega arith) (eu ∙ sym et))
      (λ nt qt. absurd (apart t lt (sym qt ∙ sym h ∙ qu))))
      (λ nu qu. by t
      (λ et qt. absurd (apart u lu (sym qu ∙ h ∙ qt)))
      (λ nt qt. one u t (omega arith) (omega arith) (sym qu ∙ h ∙ qt)))

  -- y is f m, or is m, or is among what hide gives
  found : ((y : ℕ) → y < m → (t : ℕ) × (t < m) × (hide m f t ≡ y)) → (y : ℕ) → y < suc m → (t : ℕ) × (t < suc m) × (f t ≡ y)
  found ih y h = first (eqb (f m) y) refl
    where
      first : (b : Bool) → eqb (f m) y ≡ b → (t : ℕ) × (t < suc m) × (f t ≡ y)
      first true e = (m, le_refl (suc m), eqb-true (f m) y e)
      first false e = second (eqb y m) refl (eqb-false (f m) y e)
        where
          second : (b : Bool) → eqb y m ≡ b → f m ≢ y → (t : ℕ) × (t < suc m) × (f t ≡ y)
          -- y is m, which f m stands for
          second true w n =
              let v : y ≡ m = eqb-true y m w in
              let r = ih (f m) (omega (arith, last)) in
              (r.0, omega (arith, r.1), by r.0 (λ s q. s ∙ sym v) (λ s q. absurd (apart r.0 r.1 (sym q ∙ r.2))))
          second false w n =
              let v : y ≢ m = eqb-false y m w in
              let r = ih y (omega arith) in
              (r.0, omega (arith, r.1), by r.0 (λ s q. absurd (n (sym q ∙ r.2))) (λ s q. sym q ∙ r.2))

-- n numbers below n that all differ: each number below n is among them
pub onto : (n : ℕ) (f : ℕ → ℕ) → ((t : ℕ) → t < n → f t < n) → ((u t : ℕ) → u < n → t < n → f u ≡ f t → u ≡ t)
    → (y : ℕ) → y < n → (t : ℕ) × (t < n) × (f t ≡ y)
onto zero f low one y h = absurd (omega arith)
onto (suc m) f low one y h = found m f low one (onto m (hide m f) (hide-low m f low one) (hide-one m f low one)) y h

pub perm-onto : (p : List ℕ) → is_perm p ≡ true → (y : ℕ) → y < length p → (t : ℕ) × (t < length p) × (get_or p t 0 ≡ y)
perm-onto p h = onto (length p) (λ t. get_or p t 0) (perm-below p h) (perm-distinct p h)
