-- Combining step by step (`combine`) is one sum over the bucket (../algebra, Bucket): "for x all x, for y the first, for z all z and each
-- later x whose d is 1" (document 02, order 3), however many triples there are.
use Rattle.std.specs.Prelude.{◌≡◌, Bool}
use Rattle.std.proofs.Math.Path.{refl, ap}
use Rattle.std.proofs.Common.{◌∙◌}
use Prim.Native.Nat.{ℕ, zero, suc}
use Rattle.algebra.specs.Group.{sel}
use Rattle.algebra.specs.Bucket.{step_x, step_z, bucket_x, bucket_z, one-sum-x, one-sum-z}
use Rattle.share.specs.Share.{Share, shares}
use Rattle.rounds.specs.Buckets.{Triple, two, combine}

module _ (g : ℕ → Triple) (d : ℕ → Bool) where
  abbrev xs : ℕ → Share
  xs e = (g e).tx

  abbrev zs : ℕ → Share
  zs e = (g e).tz

  steps-x : (c : ℕ) → (combine g d c).tx ≡ step_x shares xs c
  unfolding combine two step_x
  steps-x zero = refl
  steps-x (suc c) = ap (λ (a : Share). shares.op a (xs (suc c))) (steps-x c)

  steps-z : (c : ℕ) → (combine g d c).tz ≡ step_z shares xs zs d c
  unfolding combine two step_z
  steps-z zero = refl
  steps-z (suc c) = ap (λ (a : Share). shares.op (shares.op a (zs (suc c))) (sel shares (d c) (xs (suc c)))) (steps-z c)

  pub combine-x : (c : ℕ) → (combine g d c).tx ≡ bucket_x shares (λ e. (g e).tx) c
  combine-x c = steps-x c ∙ one-sum-x shares xs c

  pub combine-y : (c : ℕ) → (combine g d c).ty ≡ (g 0).ty
  unfolding combine two
  combine-y zero = refl
  combine-y (suc c) = combine-y c

  pub combine-z : (c : ℕ) → (combine g d c).tz ≡ bucket_z shares (λ e. (g e).tx) (λ e. (g e).tz) d c
  combine-z c = steps-z c ∙ one-sum-z shares xs zs d c
