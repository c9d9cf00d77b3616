-- Sums in an XOR group: sums of sums, and terms that are nothing.
use Rattle.std.specs.Prelude.{◌≡◌, ℕ, zero, suc, ◌+◌, ◌-◌, ◌*◌, ◌≤◌}
use Rattle.std.proofs.Common.{sym, ap, ◌∙◌, zero-mul, suc-mul, arith}
use Rattle.algebra.specs.Group.{XorGroup, unit-r}
use Rattle.algebra.specs.Sum.{sum, sum-ext, sum-nil, sum-split}

-- a sum of sums is one sum
pub sum-groups : {A : Type 0} (G : XorGroup A) (n m : ℕ) (f : ℕ → A) → sum G n (λ k. sum G m (λ e. f (k * m + e))) ≡ sum G (n * m) f
unfolding sum
sum-groups G zero m f = ap (λ k. sum G k f) (sym (zero-mul m))
sum-groups G (suc n) m f =
    ap (λ x. G.op x (sum G m (λ e. f (n * m + e)))) (sum-groups G n m f) ∙ sym (sum-split G (n * m) m f)
    ∙ ap (λ k. sum G k f) (sym (suc-mul n m))

-- the terms past the end of a sum are nothing
pub sum_past : {A : Type 0} (G : XorGroup A) (n m : ℕ) (f : ℕ → A) → n ≤ m → ((t : ℕ) → n ≤ t → f t ≡ G.nil) → sum G m f ≡ sum G n f
sum_past G n m f h z =
    let q : n + (m - n) ≡ m = omega arith in
    ap (λ k. sum G k f) (sym q) ∙ sum-split G n (m - n) f
    ∙ ap (G.op (sum G n f)) (sum-ext G (m - n) (λ i. f (n + i)) (λ i. G.nil) (λ i l. z (n + i) (omega arith)) ∙ sum-nil G (m - n))
    ∙ unit-r G (sum G n f)
