-- Rows of equal length in one list: row k of m elements is `chunk m k x`. What stands at a row of a list that was put together from rows.
use Rattle.std.specs.Prelude.{◌≡◌, Bool, get_or, drop}
use Rattle.std.proofs.Math.Path.{refl, sym, ap, ap₂, subst}
use Rattle.std.proofs.Common.{◌∙◌, le_refl, suc-mul, zero-mul, drop_at, take-add}
use Rattle.std.proofs.Math.Bool.{true, false}
use mathlib.Core.List.{List, [], ◌∷◌, ◌++◌, append-nil}
use Prim.Native.Nat.{ℕ, zero, suc, ◌+◌, ◌-◌, ◌*◌, ◌<◌, ◌≤◌, min}
use native.Mathlib.Omega.{arith}
use Rattle.std.proofs.Math.ListN.{length, take, length-append, length-take, length-drop}
use Rattle.std.proofs.Math.Seq.{take_at, get_or-take, get_or-drop}
use Rattle.std.proofs.lemmas.List.{take-append-le, drop-append-le}
use Rattle.std.proofs.Math.Dec.{ltb}
use borrow.Author.Tests.{ltb-true, ltb-false}
use borrow.Rule.Slice.PartMut.{put_mid}
use Rattle.lists.specs.Over.{tab, cat, length-cat, in-chunks, next-chunk, length-take-drop, Written, written-zero, written-turn}
use Rattle.lists.specs.Over.{written-end}

module _ {A : Type 0} where
  -- row k of m elements
  unfoldable pub chunk : ℕ → ℕ → List A → List A
  chunk m k x = take m (drop (k * m) x)

  -- part j lies within
  pub cat-inside : (n : ℕ) (p : ℕ → List A) (j : ℕ) → j < n → length (cat j p) + length (p j) ≤ length (cat n p)
  unfolding cat
  cat-inside zero p j h = absurd (omega arith)
  cat-inside (suc n) p j h = go (ltb j n) refl (cat-inside n p j)
    where
      go : (b : Bool) → ltb j n ≡ b → (j < n → length (cat j p) + length (p j) ≤ length (cat n p))
          → length (cat j p) + length (p j) ≤ length (cat n p ++ p n)
      go true e ih = omega (arith, ih (ltb-true j n e), length-append (cat n p) (p n))
      go false e ih =
          let q : n ≡ j = omega (arith, ltb-false j n e) in
          subst (λ i. length (cat i p) + length (p i) ≤ length (cat n p ++ p n)) q (omega (arith, length-append (cat n p) (p n)))

  -- part j, of any length, is found behind the parts before it
  pub cat-part : (n : ℕ) (p : ℕ → List A) (j : ℕ) → j < n → take (length (p j)) (drop (length (cat j p)) (cat n p)) ≡ p j
  unfolding cat
  cat-part zero p j h = absurd (omega arith)
  cat-part (suc n) p j h = go (ltb j n) refl (cat-part n p j)
    where
      go : (b : Bool) → ltb j n ≡ b → (j < n → take (length (p j)) (drop (length (cat j p)) (cat n p)) ≡ p j)
          → take (length (p j)) (drop (length (cat j p)) (cat n p ++ p n)) ≡ p j
      go true e ih =
          let c : length (cat j p) + length (p j) ≤ length (cat n p) = cat-inside n p j (ltb-true j n e) in
          rw (drop-append-le (length (cat j p)) (cat n p) (p n) (omega arith))
          (take-append-le (length (p j)) (drop (length (cat j p)) (cat n p)) (p n) (rw length-drop (omega arith)) ∙ ih (ltb-true j n e))
      go false e ih =
          let q : n ≡ j = omega (arith, ltb-false j n e) in
          subst (λ i. take (length (p i)) (drop (length (cat i p)) (cat n p ++ p n)) ≡ p i) q
          (rw (drop_at (cat n p) (p n) (length (cat n p)) refl)
          (ap (take (length (p n))) (sym (append-nil (p n))) ∙ take_at (p n) [] (length (p n)) refl))

  pub chunk-cat : (m n : ℕ) (g : ℕ → List A) → ((j : ℕ) → j < n → length (g j) ≡ m) → (k : ℕ) → k < n → chunk m k (cat n g) ≡ g k
  unfolding chunk
  chunk-cat m n g h k l =
      ap₂ (λ a b. take b (drop a (cat n g))) (sym (length-cat k m g (λ j i. h j (omega arith)))) (sym (h k l)) ∙ cat-part n g k l

  -- the first n rows together are the first n * m elements
  pub cat-chunk : (m n : ℕ) (x : List A) → cat n (λ k. chunk m k x) ≡ take (n * m) x
  unfolding cat chunk
  cat-chunk m zero x = ap (λ a. take a x) (sym (zero-mul m))
  cat-chunk m (suc n) x =
      ap (λ (r : List A). r ++ take m (drop (n * m) x)) (cat-chunk m n x) ∙ sym (take-add (n * m) m x)
      ∙ ap (λ a. take a x) (sym (suc-mul n m))

  pub length-chunk : (m n k : ℕ) (x : List A) → k < n → n * m ≤ length x → length (chunk m k x) ≡ m
  unfolding chunk
  length-chunk m n k x h l =
      length-take m (drop (k * m) x) ∙ ap (min m) (length-drop (k * m) x) ∙ (let e = in-chunks k n m h in omega (arith, e))

  pub get_d_chunk : (m k : ℕ) (x : List A) (j : ℕ) (d : A) → j < m → get_or (chunk m k x) j d ≡ get_or x (k * m + j) d
  unfolding chunk
  get_d_chunk m k x j d h = get_or-take m (drop (k * m) x) j d h ∙ get_or-drop (k * m) x j d

  -- lists made by two rules that agree
  pub cat-ext : (n : ℕ) (g h : ℕ → List A) → ((j : ℕ) → j < n → g j ≡ h j) → cat n g ≡ cat n h
  unfolding cat
  cat-ext zero g h e = refl
  cat-ext (suc n) g h e = ap₂ ◌++◌ (cat-ext n g h (λ j l. e j (omega arith))) (e n (le_refl (suc n)))

  pub tab-ext : (n : ℕ) (f g : ℕ → A) → ((i : ℕ) → i < n → f i ≡ g i) → tab n f ≡ tab n g
  unfolding tab
  tab-ext zero f g h = refl
  tab-ext (suc n) f g h = ap₂ (λ (x : List A) y. x ++ (y ∷ [])) (tab-ext n f g (λ i l. h i (omega arith))) (h n (le_refl (suc n)))

-- ---- rows of m elements, lent and written one after another
module _ {A : Type 0} where
  -- row k, lent as `&x[k * m .. k * m + m]`
  pub length-row : (m k : ℕ) (x : List A) → k * m + m ≤ length x → length (take (k * m + m - k * m) (drop (k * m) x)) ≡ m
  length-row m k x h = length-take-drop (k * m) (k * m + m) x ∙ omega arith

  pub row-part : (m k : ℕ) (x : List A) → take (k * m + m - k * m) (drop (k * m) x) ≡ chunk m k x
  unfolding chunk
  row-part m k x = ap (λ j. take j (drop (k * m) x)) (let e : k * m + m - k * m ≡ m = omega arith in e)

module _ {A : Type 0} (g : ℕ → List A) where
  pub even-zero : (m : ℕ) (l : List A) → Written g 0 (0 * m) l l
  even-zero m l = rw (zero-mul m) (written-zero g l)

  module _ (c m : ℕ) (l : List A) (size : length l ≡ c * m) where
    pub even-in : (q : ℕ) → q < c → q * m + m ≤ length l
    even-in q h = omega (arith, in-chunks q c m h)

    -- one more row, through the part of d from q * m to e
    pub even-put : (q e : ℕ) (d x : List A) → q < c → Written g q (q * m) l d → length (g q) ≡ m → x ≡ g q → e ≡ q * m + m
        → Written g (q + 1) ((q + 1) * m) l (put_mid (q * m) (e - q * m) d x)
    even-put q e d x h w long hx he =
        written-turn g q (q * m) e ((q + 1) * m) l d x w hx (ap (λ k. q * m + k) long ∙ sym he) (omega (arith, even-in q h))
        (he ∙ sym (next-chunk q m))

    -- the same, where x is as long as what was lent
    pub even-turn : (q : ℕ) (d x : List A) → q < c → Written g q (q * m) l d → x ≡ g q
        → length x ≡ length (take (q * m + m - q * m) (drop (q * m) d))
        → Written g (q + 1) ((q + 1) * m) l (put_mid (q * m) (q * m + m - q * m) d x)
    even-turn q d x h w e k =
        even-put q (q * m + m) d x h w (sym (ap length e) ∙ k ∙ length-row m q d (omega (arith, w.same, even-in q h))) e refl

    pub even-end : (q : ℕ) (d : List A) → Written g q (q * m) l d → q ≡ c → d ≡ cat c g
    even-end q d w e = written-end g q c (q * m) l d w e (rw (size, e) (omega arith))
