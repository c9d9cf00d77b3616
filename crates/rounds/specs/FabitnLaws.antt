-- r in its two forms (document 02, order 4): the sums see the strings alone, and a seed's are as long as those that are lent.
use Rattle.std.specs.Prelude.{◌≡◌, Bool, true, false, ◌||◌, ◌≢◌, List, ℕ, ◌*◌, length, eqb}
use Rattle.std.proofs.Math.Path.{refl}
use native.Mathlib.Omega.{arith}
use Rattle.std.proofs.Common.{eq-eqb}
use Rattle.plan.specs.Plan.{r_blocks, r_len}
use Rattle.draw.specs.Strings.{seed?}
use Rattle.draw.specs.StringLaws as StringLaws
use Rattle.engine.specs.declared.Frame.{Frame}
use Rattle.rounds.specs.Fabitn.{STRINGS, r_fits, strings, picks, bit_sum, mac_sum, key_sum, abit_msg, key_sums}

-- ---- two forms of the same strings
module _ (f : Frame) (r r' recs : List ℕ) (e : strings f.l r ≡ strings f.l r') where
  pub abit-alike : (k : ℕ) → abit_msg f r recs k ≡ abit_msg f r' recs k
  unfolding abit_msg bit_sum mac_sum picks
  abit-alike k = rw e

  pub sums-alike : key_sums f r recs ≡ key_sums f r' recs
  unfolding key_sums key_sum picks
  sums-alike = rw e

-- ---- all strings, and a seed
or-true : (b : Bool) → (b || true) ≡ true
or-true true = refl
or-true false = refl

module _ (l : ℕ) (r : List ℕ) where
  not-seed : length r ≡ r_len l → length r ≢ 16
  unfolding r_len
  not-seed e q = omega arith

  pub strings-all : length r ≡ r_len l → strings l r ≡ r
  unfolding strings
  strings-all e = StringLaws.strings-lent (STRINGS * r_blocks l) r (not-seed e)

  pub seed-long : length r ≡ 16 → length (strings l r) ≡ r_len l
  unfolding strings r_len
  seed-long e = omega (arith, StringLaws.length-strings (STRINGS * r_blocks l) r e)

  pub fits_all : length r ≡ r_len l → r_fits l (length r) ≡ true
  unfolding r_fits
  fits_all e = rw (eq-eqb _ _ e) refl

  pub fits-seed : length r ≡ 16 → r_fits l (length r) ≡ true
  unfolding r_fits seed?
  fits-seed e = rw (eq-eqb (length r) 16 e) (or-true (eqb (length r) (r_len l)))
