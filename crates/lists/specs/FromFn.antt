-- An array that std's `from_fn` made. Where no call changes the closure, the elements are a table.
use Rattle.std.specs.Prelude.{◌≡◌, List, ℕ, zero, suc, ◌+◌, ◌<◌, ◌≤◌, get_or}
use Rattle.std.proofs.Common.{refl, sym, ap, ◌∙◌, subst, arith, ext_get_or}
use Rattle.std.specs.Array.{IsFromFnResult, IsFromFnResultFrom}
use Rattle.std.specs.Fn.{Mut, Called}
use Rattle.lists.specs.Pick.{by-eq}
use Rattle.lists.specs.Over.{tab, length-tab, get_or-tab}

module _ {F B : Type 0} (g : Mut F (ℕ × Unit {0}) B) (f : F) (t : ℕ → B) (ys : List B) (m : ℕ)
    (same : (k : ℕ) (y : B) (q : F) → k < m → Called g f (k, tt) y q → (y ≡ t k) × (q ≡ f)) where
  -- the elements from i on
  made-from : (i n : ℕ) (p : F) → p ≡ f → i + n ≡ m → IsFromFnResultFrom g p ys i n → (k : ℕ) → i ≤ k → k < m → (d : B)
      → get_or ys k d ≡ t k
  made-from i zero p e h c k l w d = absurd (omega arith)
  made-from i (suc n) p e h c k l w d =
      let one = same i c.1 c.0 (omega arith) (subst (λ (r : F). Called g r (i, tt) c.1 c.0) e c.3) in
      by-eq _ k i
      (λ q. ap (λ j. get_or ys j d) q ∙ c.2.1 d ∙ one.0 ∙ ap t (sym q))
      (λ q. made-from (i + 1) n c.0 one.1 (omega arith) c.4 k (omega arith) w d)

  pub made : IsFromFnResult g f ys m → ys ≡ tab m t
  made r =
      ext_get_or (t 0) ys (tab m t) (r.long ∙ sym (length-tab m t))
      (λ i w. made-from 0 m f refl (omega arith) r.each i (omega arith) (omega (arith, r.long)) (t 0)
      ∙ sym (get_or-tab m i t (t 0) (omega (arith, r.long))))
