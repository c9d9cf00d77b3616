-- A bucket of leaky ANDs, combined (Pi_aAND of WRK17b), over any XOR group: `x e` and `z e` are triple e's, and d e was opened for triple
-- e + 1. Step by step, "x = x1 + x2, y = y1, z = z1 + z2 + d·x2" (document 01), and "as one sum over the bucket" (document 02, order 3).
-- The two are equal for every bucket from one triple up.
use Rattle.std.specs.Prelude.{◌≡◌, Bool}
use Rattle.std.proofs.Math.Path.{refl, sym, ap, ap₂}
use Rattle.std.proofs.Common.{◌∙◌, arith}
use Prim.Native.Nat.{ℕ, zero, suc, ◌<◌}
use Rattle.algebra.specs.Group.{XorGroup, sel, unit-r, op4}
use Rattle.algebra.specs.Sum.{sum, sum-ext, sum-op}

module _ {A : Type 0} (G : XorGroup A) (x : ℕ → A) where
  -- c + 1 triples, one by one from the left
  unfoldable pub step_x : ℕ → A
  step_x zero = x 0
  step_x (suc c) = G.op (step_x c) (x (suc c))

  unfoldable pub step_z : (ℕ → A) → (ℕ → Bool) → ℕ → A
  step_z z d zero = z 0
  step_z z d (suc c) = G.op (G.op (step_z z d c) (z (suc c))) (sel G (d c) (x (suc c)))

  -- "for x all x"
  unfoldable pub bucket_x : ℕ → A
  bucket_x c = sum G (suc c) x

  -- "for z all z and each later x whose d is 1"
  unfoldable pub bucket_z : (ℕ → A) → (ℕ → Bool) → ℕ → A
  bucket_z z d c = G.op (sum G (suc c) z) (sum G c (λ e. sel G (d e) (x (suc e))))

  -- ---- the first triple, and one triple more
  pub first-x : bucket_x 0 ≡ x 0
  unfolding bucket_x sum
  first-x = G.unit (x 0)

  pub next-x : (c : ℕ) → bucket_x (suc c) ≡ G.op (bucket_x c) (x (suc c))
  unfolding bucket_x sum
  next-x c = refl

  module _ (z : ℕ → A) (d : ℕ → Bool) where
    pub first-z : bucket_z z d 0 ≡ z 0
    unfolding bucket_z sum
    first-z = unit-r G (G.op G.nil (z 0)) ∙ G.unit (z 0)

    pub next-z : (c : ℕ) → bucket_z z d (suc c) ≡ G.op (G.op (bucket_z z d c) (z (suc c))) (sel G (d c) (x (suc c)))
    unfolding bucket_z sum
    next-z c =
        let later : A = sum G c (λ e. sel G (d e) (x (suc e))) in
        let v : A = sel G (d c) (x (suc c)) in
        op4 G (sum G (suc c) z) (z (suc c)) later v
        ∙ sym (G.assoc (G.op (sum G (suc c) z) later) (z (suc c)) v)

  -- ---- the law: one sum is what the steps make
  pub one-sum-x : (c : ℕ) → step_x c ≡ bucket_x c
  unfolding step_x
  one-sum-x zero = sym first-x
  one-sum-x (suc c) = ap (λ (a : A). G.op a (x (suc c))) (one-sum-x c) ∙ sym (next-x c)

  pub one-sum-z : (z : ℕ → A) (d : ℕ → Bool) (c : ℕ) → step_z z d c ≡ bucket_z z d c
  unfolding step_z
  one-sum-z z d zero = sym (first-z z d)
  one-sum-z z d (suc c) =
      ap (λ (a : A). G.op (G.op a (z (suc c))) (sel G (d c) (x (suc c)))) (one-sum-z z d c) ∙ sym (next-z z d c)

-- ---- given by rules that agree
module _ {A : Type 0} (G : XorGroup A) (x y : ℕ → A) (c : ℕ) (hx : (e : ℕ) → e < suc c → x e ≡ y e) where
  pub x-ext : bucket_x G x c ≡ bucket_x G y c
  unfolding bucket_x
  x-ext = sum-ext G (suc c) x y hx

  pub z-ext : (z w : ℕ → A) (d b : ℕ → Bool) → ((e : ℕ) → e < suc c → z e ≡ w e) → ((e : ℕ) → e < c → d e ≡ b e)
      → bucket_z G x z d c ≡ bucket_z G y w b c
  unfolding bucket_z
  z-ext z w d b hz hd =
      ap₂ G.op (sum-ext G (suc c) z w hz)
      (sum-ext G c (λ e. sel G (d e) (x (suc e))) (λ e. sel G (b e) (y (suc e)))
      (λ e l. ap₂ (sel G) (hd e l) (hx (suc e) (omega arith))))

-- what all z have besides is summed by itself
pub z-op : {A : Type 0} (G : XorGroup A) (x z v : ℕ → A) (d : ℕ → Bool) (c : ℕ)
    → bucket_z G x (λ e. G.op (z e) (v e)) d c ≡ G.op (bucket_z G x z d c) (sum G (suc c) v)
unfolding bucket_z
z-op G x z v d c =
    let later = sum G c (λ e. sel G (d e) (x (suc e))) in
    ap (λ a. G.op a later) (sum-op G (suc c) z v)
    ∙ G.assoc (sum G (suc c) z) (sum G (suc c) v) later
    ∙ ap (G.op (sum G (suc c) z)) (G.comm (sum G (suc c) v) later)
    ∙ sym (G.assoc (sum G (suc c) z) later (sum G (suc c) v))
