-- The entries of a bucket: where they lie in the permutation, and where their records y lie.
use Rattle.std.specs.Prelude.{◌≡◌, List, ℕ, ◌+◌, ◌*◌, ◌<◌, ◌≤◌, length}
use Rattle.std.proofs.Math.Nat.{mod-lt}
use Rattle.std.proofs.Common.{add-one}
use native.Mathlib.Omega.{arith}
use Rattle.lists.specs.Over.{in-chunks}
use Rattle.share.specs.Record.{record_len}
use Rattle.share.specs.Share.{share_at, shares}
use Rattle.plan.specs.Plan.{bucket_size, leaky}
use Rattle.plan.specs.PlanLaws.{bucket-low, bucket-high}
use Rattle.engine.specs.declared.Frame.{Frame}
use Rattle.rounds.specs.Haand.{y}
use Rattle.word.specs.Word.{word_at}
use Rattle.rounds.specs.Buckets.{entry, later, d}
use Rattle.area.specs.Given.{Ranged}
use Rattle.area.specs.Positions.{y-in}
use Rattle.buckets.specs.Given.{Permuted}

pub leaky-some : (l : ℕ) → 1 ≤ l → 1 ≤ leaky l
unfolding leaky
leaky-some l h = omega (arith, bucket-low l, in-chunks 0 l (bucket_size l) h)

-- entry e of bucket j lies within the permutation
pub place_inside : (l j e : ℕ) → j < l → e < bucket_size l → (j * bucket_size l + e) * 4 + 4 ≤ leaky l * 4
unfolding leaky
place_inside l j e h k = omega (arith, in-chunks j l (bucket_size l) h)

module _ (f : Frame) where
  -- the first entry and the later ones are a bucket's
  pub first-in : 0 < bucket_size f.l
  first-in = omega (arith, bucket-low f.l)

  pub later-in : (e : ℕ) → e < later f → e + 1 < bucket_size f.l
  unfolding later
  later-in e h = omega arith

  pub later-most : later f ≤ 4
  unfolding later
  later-most = omega (arith, bucket-high f.l)

  -- an entry is the number of a leaky AND
  pub entry_lt : (perm : List ℕ) (j e : ℕ) → 1 ≤ f.l → entry f perm j e < leaky f.l
  unfolding entry
  entry_lt perm j e h = mod-lt (word_at ((j * bucket_size f.l + e) * 4) perm) (leaky-some f.l h)

  -- where its record y starts
  abbrev pub y_at : List ℕ → ℕ → ℕ → ℕ
  y_at perm j e = (leaky f.l + entry f perm j e) * record_len f.n

-- it lies within the records
pub y-within : {f : Frame} {recs perm : List ℕ} → Ranged f → Permuted f recs perm → (j e at : ℕ) → at ≡ y_at f perm j e
    → at + record_len f.n ≤ length recs
y-within {f} {recs} {perm} r q j e at h =
    omega (arith, h, y-in f recs q.records (entry f perm j e) (entry_lt f perm j e r.range.one))

-- d where it is read
pub d-read : (f : Frame) (recs perm : List ℕ) (j e y0 y1 : ℕ) → y0 ≡ y_at f perm j 0 → y1 ≡ y_at f perm j (e + 1)
    → shares.op (share_at recs y0) (share_at recs y1) ≡ d f recs perm j e
unfolding d y
d-read f recs perm j e y0 y1 p q = rw (p, q, add-one e)
