-- What the functions are given, and where in it the parts of a bucket lie.
use Rattle.std.specs.Prelude.{◌≡◌, refl, List, ℕ, suc, ◌+◌, ◌-◌, ◌*◌, ◌<◌, ◌≤◌, get_or}
use Rattle.std.proofs.Math.Path.{sym, ap, ap₂}
use Rattle.std.proofs.Common.{◌∙◌, add-zero}
use native.Mathlib.Omega.{arith}
use Rattle.std.proofs.Math.ListN.{length}
use Rattle.lists.specs.Over.{tab, length-tab, get_or-tab, in-chunks}
use Rattle.lists.specs.Rows.{chunk, length-chunk}
use Rattle.lists.specs.Sect.{get}
use Rattle.share.specs.Layout.{record_len, record-some}
use Rattle.plan.specs.Plan.{leaky, bits_count, bucket_size}
use Rattle.plan.specs.PlanLaws.{bucket-low}
use Rattle.engine.specs.declared.Frame.{Frame}
use Rattle.engine.specs.Area.{off, sec, get-get}
use Rattle.rounds.specs.Area.{BITS, ZS, ES, PERM, DS, size_of, at}
use Rattle.rounds.specs.Buckets.{entry, later}
use Rattle.bucket_sum.specs.Sums.{Within, BucketIn}
use Rattle.area.specs.Given.{Ranged, Work, Place}
use Rattle.area.specs.Positions as Positions
use Rattle.area.specs.GivenLaws.{length_at, row_inside}
use Rattle.area.specs.Sizes.{size-bits, size-zs, size-es}
use Rattle.buckets.specs.Entries.{entry_lt}
use Rattle.buckets.specs.Given.{size-opened}
use Rattle.triples.specs.declared.Places.{Places}

-- the records, the others' bits e, the positions of a bucket's leaky ANDs and the d of all but the first
pub record Bucketed (f : Frame) (recs es ts d : List ℕ) : Type 0 where
  pub records : length recs ≡ bits_count f.l * record_len f.n
  pub told : length es ≡ f.n * leaky f.l
  pub count : length ts ≡ length d + 1
  pub below : (e : ℕ) → e < length ts → get_or ts e 0 < leaky f.l

module _ {f : Frame} {recs es ts d : List ℕ} (h : Bucketed f recs es ts d) where
  -- each r lies 2·l·b records behind its x
  pub bucket-in : Ranged f → BucketIn f.n (record_len f.n) recs ts (2 * leaky f.l) d
  bucket-in g = record {
    few = g.range.eight;
    step = record-some f.n;
    count = h.count;
    inside = λ e l.
        let t : ℕ = get_or ts e 0 in
        omega (
          arith,
          Positions.r-in f recs h.records t (h.below e l),
          ap (λ a. a * record_len f.n) (let q : t + 2 * leaky f.l ≡ 2 * leaky f.l + t = omega arith in q),
        );
  }

  -- party k's bits e
  pub e-in : (k : ℕ) → k < f.n → (e : ℕ) → e < length ts → k * leaky f.l + get_or ts e 0 < length es
  e-in k lk e l = omega (arith, in-chunks k f.n (leaky f.l) lk, h.told, h.below e l)

-- ---- the sections of the work area
-- where they lie
pub record Placed (f : Frame) (p : Places) : Type 0 where
  pub recs : Place f BITS p.recs.0 p.recs.1
  pub zs : Place f ZS p.zs.0 p.zs.1
  pub es : Place f ES p.es.0 p.es.1
  pub perm : Place f PERM p.perm.0 p.perm.1
  pub opened : Place f DS p.opened.0 p.opened.1

-- ts are the entries of bucket j
abbrev pub Numbered : Frame → List ℕ → ℕ → List ℕ → Type 0
Numbered f w j ts = ts ≡ tab (bucket_size f.l) (entry f (at f PERM w) j)

module _ (f : Frame) (w : List ℕ) (j : ℕ) (ts : List ℕ) (h : Numbered f w j ts) where
  pub number-count : length ts ≡ later f + 1
  unfolding later
  number-count =
      ap length h ∙ length-tab (bucket_size f.l) (entry f (at f PERM w) j)
      ∙ (let e : bucket_size f.l ≡ bucket_size f.l - 1 + 1 = omega (arith, bucket-low f.l) in e)

  number_at : (e : ℕ) → e < length ts → get_or ts e 0 ≡ entry f (at f PERM w) j e
  number_at e l =
      ap (λ (s : List ℕ). get_or s e 0) h
      ∙ get_or-tab (bucket_size f.l) e (entry f (at f PERM w) j) 0
      (let n : length ts ≡ bucket_size f.l = ap length h ∙ length-tab (bucket_size f.l) (entry f (at f PERM w) j) in omega (arith, n))

  pub number-entry : (e : ℕ) → e < suc (later f) → get_or ts e 0 ≡ entry f (at f PERM w) j e
  number-entry e l = number_at e (omega (arith, number-count))

  number-below : 1 ≤ f.l → (e : ℕ) → e < length ts → get_or ts e 0 < leaky f.l
  number-below one e l = omega (arith, number_at e l, entry_lt f (at f PERM w) j e one)

-- a bucket of the sections as they were lent
pub bucket-is : {f : Frame} {w recs es ts d : List ℕ} (j : ℕ) → Work f w → recs ≡ at f BITS w → es ≡ at f ES w → Numbered f w j ts
    → length d ≡ later f
    → Bucketed f recs es ts d
bucket-is {f} {w} {recs} {es} {ts} {d} j h hr he ht hd = record {
  records = ap length hr ∙ length_at h BITS (omega arith) ∙ size-bits f;
  told = ap length he ∙ length_at h ES (omega arith) ∙ size-es f;
  count = number-count f w j ts ht ∙ ap (λ c. c + 1) (sym hd);
  below = number-below f w j ts ht h.ranges.range.one;
}

-- the bits z, in rows of 17 bytes
pub z-within : {f : Frame} {w zs ts : List ℕ} (j : ℕ) → Work f w → zs ≡ at f ZS w → Numbered f w j ts → Within zs ts 0 17 1
z-within {f} {w} {zs} {ts} j h hz ht e l =
    let long : length zs ≡ leaky f.l * 17 = ap length hz ∙ length_at h ZS (omega arith) ∙ size-zs f in
    omega (
      arith,
      long,
      in-chunks (get_or ts e 0) (leaky f.l) 17 (number-below f w j ts ht h.ranges.range.one e l),
      ap (λ a. a * 17) (add-zero (get_or ts e 0)),
    )

-- ---- the d of bucket j
module _ {f : Frame} {w : List ℕ} (h : Work f w) (j : ℕ) (lj : j < f.l) where
  pub length-ds : length (chunk (later f) j (at f DS w)) ≡ later f
  length-ds =
      length-chunk (later f) f.l j (at f DS w) lj (omega (arith, length_at h DS (omega arith), size-opened f))

  -- lent where they lie
  module _ (a e due : ℕ) (start : a ≡ off (size_of f) DS + j * due) (long : due ≡ later f) (end : e ≡ a + due) where
    pub ds-in : a + due ≤ length w
    ds-in =
        omega (
          arith,
          row_inside h DS (off (size_of f) DS) f.l (later f) j (omega arith) refl (sym (size-opened f)) lj,
          ap (λ m. j * m) long,
        )

    pub ds-lent : get a (e - a) w ≡ chunk (later f) j (at f DS w)
    unfolding chunk at sec
    ds-lent =
        ap₂ (λ b m. get b m w) (start ∙ ap (λ m. off (size_of f) DS + j * m) long) (let q : e - a ≡ later f = omega arith in q)
        ∙ sym (get-get (off (size_of f) DS) (size_of f DS) (j * later f) (later f) w
        (omega (arith, in-chunks j f.l (later f) lj, size-opened f)))
