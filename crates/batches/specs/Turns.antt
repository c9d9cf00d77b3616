-- What a turn and the end of each loop come to.
use Rattle.lists.specs.Kit.{refl, sym, ap, ap₂, ◌∙◌, List, [], Bool, true, false, not}
use Rattle.lists.specs.Kit.{ℕ, zero, suc, arith, length, get_or, drop, replicate, set}
use Rattle.std.proofs.Common.{append_assoc, le_refl, add-one, length-append, eqb-true, le-leb}
use Rattle.std.proofs.Math.ListN.{get_or-eq_default}
use Rattle.std.proofs.lemmas.List.{get_or-replicate}
use Rattle.std.specs.Prelude.{leb, ◌≡◌, ◌∷◌, ◌++◌, ◌&&◌, ◌||◌, ◌+◌, ◌*◌, ◌<◌, ◌≤◌}
use Rattle.std.proofs.Math.Dec.{eqb}
use Rattle.lists.specs.Pick.{pick, by-eq}
use Rattle.lists.specs.All.{all_of, all_more, and_second, not-true, not-false}
use Rattle.lists.specs.Over.{tab, cat, length-cat, over-set, cat-end, tab-zero, tab-turn}
use Rattle.lists.specs.Tab.{tab-get_or, tab-rest}
use Rattle.batches.specs.Batches.{MOST, first, total, few, filled, counts_fault, tally, joined, whole, pair, told}

module _ (c : List ℕ) where
  -- ---- the sum
  pub sum-none : 0 ≡ first 0 c
  unfolding first
  sum-none = refl

  pub sum-turn : (j l x : ℕ) → l ≡ first j c → x ≡ get_or c j 0 → l + x ≡ first (j + 1) c
  unfolding first
  sum-turn j l x e h = rw (add-one j) (ap₂ ◌+◌ e h)

  pub sum-end : (j l : ℕ) → l ≡ first j c → j ≡ length c → l ≡ total c
  unfolding total
  sum-end j l e h = e ∙ ap (λ n. first n c) h

  -- a batch ends where the later ones begin, or before
  pub first-within : (n j : ℕ) → j < n → first j c + get_or c j 0 ≤ first n c
  unfolding first
  first-within zero j h = absurd (omega arith)
  first-within (suc n) j h =
      by-eq (first j c + get_or c j 0 ≤ first (suc n) c) j n (λ e. rw e (le_refl (first n c + get_or c n 0)))
      (λ ne. omega (arith, first-within n j (omega arith)))

  pub at-within : (j at : ℕ) → j < length c → at ≡ first j c → at + get_or c j 0 ≤ total c
  unfolding total
  at-within j at h e = rw e (first-within (length c) j h)

  -- ---- no batch stands behind an unused one
  abbrev pub follows : ℕ → Bool
  follows j = not (eqb (get_or c j 0) 0) || eqb (get_or c (suc j) 0) 0

  -- ---- the counts as kept
  pub kept-whole : length c ≤ 16 → c ++ drop (length c) (replicate 16 0) ≡ tally c
  unfolding tally
  kept-whole w =
      ap (λ (x : List ℕ). x ++ drop (length c) (replicate 16 0)) (sym (tab-get_or c 0))
      ∙ tab-rest (length c) (λ k. get_or c k 0) (replicate 16 0) 0 w
      (λ i l r. get_or-eq_default c 0 (omega arith) ∙ sym (get_or-replicate 16 i 0 0 r))

  -- ---- the pairs
  pub length-pair : (j : ℕ) → length (pair c j) ≡ 2
  unfolding pair
  length-pair j = go (eqb (get_or c j 0) 0)
    where
      go : (b : Bool) → length (pick b (0 ∷ 0 ∷ []) (first j c ∷ get_or c j 0 ∷ [])) ≡ 2
      go true = refl
      go false = refl

  pair_is : (j x at : ℕ) → at ≡ first j c → x ≡ get_or c j 0 → pick (eqb x 0) 0 at ∷ x ∷ [] ≡ pair c j
  unfolding pair
  pair_is j x at e h =
      go (eqb x 0) refl ∙ ap₂ (λ y a. pick (eqb y 0) (0 ∷ 0 ∷ []) (a ∷ y ∷ [])) h e
    where
      go : (b : Bool) → eqb x 0 ≡ b → pick b 0 at ∷ x ∷ [] ≡ pick b (0 ∷ 0 ∷ []) (at ∷ x ∷ [])
      go true q = ap (λ y. 0 ∷ y ∷ []) (eqb-true x 0 q)
      go false q = refl

  abbrev pub telling : ℕ → List ℕ
  telling j = cat j (pair c) ++ drop (2 * j) (replicate 32 0)

  pub told_none : replicate 32 0 ≡ telling 0
  unfolding cat
  told_none = refl

  pub told-turn : (j : ℕ) (d : List ℕ) (p x at : ℕ) → j < 16 → d ≡ telling j → p ≡ pick (eqb x 0) 0 at → at ≡ first j c → x ≡ get_or c j 0
      → set (set d (2 * j) p) (2 * j + 1) x ≡ telling (j + 1)
  unfolding cat
  told-turn j d p x at h e ep ea ex =
      ap (λ (y : List ℕ). set (set y (2 * j) p) (2 * j + 1) x) e
      ∙ ap (λ (y : List ℕ). set y (2 * j + 1) x) (over-set before none (2 * j) p long (omega arith))
      ∙ over-set (before ++ (p ∷ [])) none (2 * j + 1) x (length-append before (p ∷ []) ∙ ap (λ n. n + 1) long) (omega arith)
      ∙ ap₂ (λ (y : List ℕ) n. y ++ drop n none)
      (append_assoc before (p ∷ []) (x ∷ []) ∙ ap (λ (y : List ℕ). before ++ y) (ap (λ q. q ∷ x ∷ []) ep ∙ pair_is j x at ea ex) ∙ next)
      (let n : 2 * j + 1 + 1 ≡ 2 * (j + 1) = omega arith in n)
    where
      before : List ℕ
      before = cat j (pair c)

      none : List ℕ
      none = replicate 32 0

      long : length before ≡ 2 * j
      long = length-cat j 2 (pair c) (λ k l. length-pair k) ∙ omega arith

      next : before ++ pair c j ≡ cat (j + 1) (pair c)
      next = rw (add-one j) refl

  pub told-end : (j : ℕ) (d : List ℕ) → d ≡ telling j → j ≡ 16 → d ≡ told c
  unfolding told
  told-end j d e h = cat-end j 16 (2 * j) (pair c) (replicate 32 0) d e h (omega arith)

  -- ---- what the tests come to
  sum_is : (s : ℕ) → leb (length c) MOST ≡ true → s ≡ pick (leb (length c) MOST) (total c) 0 → s ≡ total c
  sum_is s h e = e ∙ ap (λ b. pick b (total c) 0) h

  pub whole_is : (l s : ℕ) (g : Bool) → length c ≡ MOST → s ≡ pick (leb (length c) MOST) (total c) 0 → g ≡ joined c
      → (eqb s l && g) ≡ whole l c
  unfolding whole
  whole_is l s g h e w = ap₂ (λ x b. eqb x l && b) (sum_is s (le-leb (length c) MOST (omega arith)) e) w

  pub told-23 : not (few c) ≡ true → 23 ≡ counts_fault c
  unfolding counts_fault
  told-23 h = rw (not-true (few c) h) refl

  module _ (s : ℕ) (h : not (few c) ≡ false) (e : s ≡ pick (leb (length c) MOST) (total c) 0) where
    few-is : few c ≡ true
    few-is = not-false (few c) h

    sum-was : s ≡ total c
    unfolding few
    sum-was = sum_is s (and_second (leb 1 (length c)) (leb (length c) MOST) few-is) e

    pub told-16 : not (leb s 300000) ≡ true → 16 ≡ counts_fault c
    unfolding counts_fault
    told-16 w = rw (few-is, ← sum-was, not-true (leb s 300000) w) refl

    module _ (w : not (leb s 300000) ≡ false) (f : Bool) (v : f ≡ filled c) where
      pub told-3 : not f ≡ true → 3 ≡ counts_fault c
      unfolding counts_fault
      told-3 n = rw (few-is, ← sum-was, not-false (leb s 300000) w, ← v, not-true f n) refl

      pub told-0 : not f ≡ false → 0 ≡ counts_fault c
      unfolding counts_fault
      told-0 n = rw (few-is, ← sum-was, not-false (leb s 300000) w, ← v, not-false f n) refl

-- `search told-faults` closes a return of `fault`
pub ruleset told-faults = (told-23, told-16, told-3, told-0)
