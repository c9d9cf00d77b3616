-- More on `tab n f`, the list f 0, f 1, .., f (n - 1): in two parts, behind which a list goes on, and as a part of a list.
use Rattle.std.specs.Prelude.{◌≡◌, Bool, true, false, length, get_or, take, drop, ltb}
use Rattle.std.proofs.Math.Path.{refl, ap₂}
use Rattle.std.proofs.Common.{sym, ap, ◌∙◌, arith, get_or-drop, get_or-append-add, ext_get_or, ltb-true, ltb-false}
use mathlib.Core.List.{List, [], ◌∷◌, ◌++◌, append_assoc, append-nil}
use Prim.Native.Nat.{ℕ, zero, suc, ◌+◌, ◌-◌, ◌<◌, ◌≤◌}
use Rattle.std.proofs.Math.Nat.{add-zero, add-suc}
use Rattle.std.proofs.Math.ListN.{length-drop, get_or-append}
use Rattle.std.proofs.Math.Seq.{take-suc}
use Rattle.lists.specs.Over.{tab, length-tab, get_or-tab, length_over}

module _ {A : Type 0} where
  -- the first n, and the next m
  pub tab-add : (n m : ℕ) (f : ℕ → A) → tab (n + m) f ≡ tab n f ++ tab m (λ i. f (n + i))
  unfolding tab
  tab-add n zero f = rw add-zero (sym (append-nil (tab n f)))
  tab-add n (suc m) f =
      rw add-suc
      (ap (λ (x : List A). x ++ (f (n + m) ∷ [])) (tab-add n m f)
      ∙ append_assoc (tab n f) (tab m (λ i. f (n + i))) (f (n + m) ∷ []))

  -- k elements of s from `at` on
  pub take-tab : (k at : ℕ) (s : List A) (d : A) → at + k ≤ length s → take k (drop at s) ≡ tab k (λ i. get_or s (at + i) d)
  unfolding tab
  take-tab zero at s d h = refl
  take-tab (suc k) at s d h =
      take-suc (drop at s) k d (rw length-drop (omega arith))
      ∙ ap₂ (λ (x : List A) y. x ++ (y ∷ [])) (take-tab k at s d (omega arith)) (get_or-drop at s k d)

  -- a list is the table of its elements
  pub tab-get_or : (s : List A) (d : A) → tab (length s) (λ i. get_or s i d) ≡ s
  tab-get_or s d =
      ext_get_or d (tab (length s) (λ i. get_or s i d)) s (length-tab (length s) (λ i. get_or s i d))
      (λ i l. get_or-tab (length s) i (λ i. get_or s i d) d (rw length-tab at l))

  -- where the rule gives from n on what the list has, the rest of the list needs no writing
  pub tab-rest : (n : ℕ) (f : ℕ → A) (l : List A) (d : A) → n ≤ length l → ((i : ℕ) → n ≤ i → i < length l → f i ≡ get_or l i d)
      → tab n f ++ drop n l ≡ tab (length l) f
  tab-rest n f l d h e =
      ext_get_or d (tab n f ++ drop n l) (tab (length l) f) (long ∙ sym (length-tab (length l) f)) (λ i w. at i (rw long at w) (ltb i n) refl)
    where
      long : length (tab n f ++ drop n l) ≡ length l
      long = length_over (tab n f) l n (length-tab n f) h

      at : (i : ℕ) → i < length l → (b : Bool) → ltb i n ≡ b → get_or (tab n f ++ drop n l) i d ≡ get_or (tab (length l) f) i d
      at i w true q =
          get_or-append (tab n f) (drop n l) d i (rw length-tab (ltb-true i n q)) ∙ get_or-tab n i f d (ltb-true i n q)
          ∙ sym (get_or-tab (length l) i f d w)
      at i w false q =
          let p : length (tab n f) + (i - n) ≡ i = omega (arith, ltb-false i n q, length-tab n f) in
          let p' : n + (i - n) ≡ i = omega (arith, ltb-false i n q) in
          ap (λ k. get_or (tab n f ++ drop n l) k d) (sym p) ∙ get_or-append-add (tab n f) (drop n l) (i - n) d ∙ get_or-drop n l (i - n) d
          ∙ ap (λ k. get_or l k d) p' ∙ sym (e i (ltb-false i n q) w) ∙ sym (get_or-tab (length l) i f d w)
