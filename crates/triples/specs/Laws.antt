-- A bucket of leaky ANDs as one sum, where its records lie, and its row of TRIPLES.
use Rattle.std.specs.Prelude.{◌≡◌, Bool, ◌≢◌, List, [], ◌++◌, ℕ, suc, ◌+◌, ◌*◌, ◌<◌, length}
use Rattle.std.proofs.Math.Path.{refl, sym, ap, ap₂}
use Rattle.std.proofs.Common.{◌∙◌, add-zero}
use native.Mathlib.Omega.{arith}
use Rattle.std.proofs.Math.ListN.{get_or, length-append}
use Rattle.lists.specs.Over.{cat}
use Rattle.lists.specs.Rows.{chunk, get_d_chunk}
use Rattle.algebra.specs.Group.{bits, sel, odd}
use Rattle.algebra.specs.Sum.{sum, sum-bits}
use Rattle.algebra.specs.Bucket.{bucket_x, bucket_z, x-ext, z-ext, z-op}
use Rattle.block.specs.declared.Block.{Block}
use Rattle.block.specs.Group.{blocks}
use Rattle.share.specs.Record.{record_len}
use Rattle.share.specs.Share.{Share, share_at, shares, entry_of, record_of}
use Rattle.share.specs.ShareLaws.{length-record_of, bit-bucket-x, bit-bucket-z, mac-bucket-z, key-bucket-z}
use Rattle.plan.specs.Plan.{leaky}
use Rattle.engine.specs.declared.Frame.{Frame}
use Rattle.rounds.specs.Area.{BITS, ZS, ES, PERM, DS, TRIPLES, at}
use Rattle.rounds.specs.Haand.{x, r}
use Rattle.rounds.specs.Haand as Haand
use Rattle.rounds.specs.Flaand.{z_key}
use Rattle.rounds.specs.Buckets.{Triple, entry, later, z_share, leaky_and, abc, triple_row, triple_rows}
use Rattle.rounds.specs.BucketLaws.{combine-x, combine-z}
use Rattle.bucket_sum.specs.declared.Sums.{Sums}
use Rattle.bucket_sum.specs.Sums.{x_among, z_among, Entries}

-- ---- from the sums to a and c: z has r's MACs, and r's keys, plus delta where the e sum to 1
module _ (f : Frame) (delta : Block) (recs zs es ts : List ℕ) (d : ℕ → Bool) (c k : ℕ) where
  abbrev xs : ℕ → Share
  xs e = x f recs (get_or ts e 0)

  abbrev rs : ℕ → Share
  rs e = r f recs (get_or ts e 0)

  abbrev z : ℕ → Share
  z e = z_share f delta recs zs es (get_or ts e 0)

  abbrev told : ℕ → Bool
  told e = odd (get_or es (k * leaky f.l + get_or ts e 0) 0)

  same-r : (e : ℕ) → z_among (record_len f.n) recs ts (2 * leaky f.l) e ≡ rs e
  unfolding z_among r
  same-r e =
      ap (λ a. share_at recs (a * record_len f.n))
      (let q : get_or ts e 0 + 2 * leaky f.l ≡ 2 * leaky f.l + get_or ts e 0 = omega arith in q)

  as-r : bucket_z shares (x_among (record_len f.n) recs ts) (z_among (record_len f.n) recs ts (2 * leaky f.l)) d c
      ≡ bucket_z shares xs rs d c
  unfolding x_among x
  as-r = z-ext shares xs xs c (λ e l. refl) (z_among (record_len f.n) recs ts (2 * leaky f.l)) rs d d (λ e l. same-r e) (λ e l. refl)

  pub z-mac : (m : Block)
      → m ≡ (bucket_z shares (x_among (record_len f.n) recs ts) (z_among (record_len f.n) recs ts (2 * leaky f.l)) d c).mac k
      → m ≡ (bucket_z shares (λ e. x f recs (get_or ts e 0)) (λ e. z_share f delta recs zs es (get_or ts e 0)) d c).mac k
  unfolding z_share
  z-mac m e = e ∙ ap (λ (s : Share). s.mac k) as-r ∙ mac-bucket-z xs c rs d k ∙ sym (mac-bucket-z xs c z d k)

  pub z-key : (m : Block) (b : Bool)
      → m ≡ (bucket_z shares (x_among (record_len f.n) recs ts) (z_among (record_len f.n) recs ts (2 * leaky f.l)) d c).key k
      → b ≡ sum bits (suc c) (λ e. odd (get_or es (k * leaky f.l + get_or ts e 0) 0))
      → blocks.op m (sel blocks b delta)
      ≡ (bucket_z shares (λ e. x f recs (get_or ts e 0)) (λ e. z_share f delta recs zs es (get_or ts e 0)) d c).key k
  unfolding z_share z_key
  z-key m b e hb =
      ap₂ (λ (a : Block) (v : Bool). blocks.op a (sel blocks v delta))
      (e ∙ ap (λ (s : Share). s.key k) as-r ∙ key-bucket-z xs c rs d k) hb
      ∙ ap (blocks.op (bucket_z blocks (λ e. (xs e).key k) (λ e. (rs e).key k) d c)) (sym (sum-bits blocks (suc c) told delta))
      ∙ sym (z-op blocks (λ e. (xs e).key k) (λ e. (rs e).key k) (λ e. sel blocks (told e) delta) d c)
      ∙ sym (key-bucket-z xs c z d k)

-- ---- bucket j in the work area
unfoldable pub triple_at : Frame → Block → List ℕ → ℕ → Triple
triple_at f delta w = abc f delta (at f BITS w) (at f ZS w) (at f ES w) (at f PERM w) (at f DS w)

module _ (f : Frame) (delta : Block) (w : List ℕ) (j : ℕ) (ts ds : List ℕ)
    (ht : (e : ℕ) → e < suc (later f) → get_or ts e 0 ≡ entry f (at f PERM w) j e) (hd : ds ≡ chunk (later f) j (at f DS w))
    (long : length ds ≡ later f) where
  abbrev x_at : ℕ → Share
  x_at t = x f (at f BITS w) t

  abbrev z_at : ℕ → Share
  z_at t = z_share f delta (at f BITS w) (at f ZS w) (at f ES w) t

  d-is : (e : ℕ) → e < later f → odd (get_or (at f DS w) (j * later f + e) 0) ≡ odd (get_or ds e 0)
  d-is e l = ap odd (sym (get_d_chunk (later f) j (at f DS w) e 0 l) ∙ ap (λ (s : List ℕ). get_or s e 0) (sym hd))

  triple-x : (triple_at f delta w j).tx ≡ bucket_x shares (λ e. x f (at f BITS w) (get_or ts e 0)) (later f)
  unfolding triple_at abc leaky_and
  triple-x =
      combine-x _ _ (later f)
      ∙ x-ext shares (λ e. x_at (entry f (at f PERM w) j e)) (λ e. x_at (get_or ts e 0)) (later f) (λ e l. ap x_at (sym (ht e l)))

  triple-z : (triple_at f delta w j).tz
      ≡ bucket_z shares (λ e. x f (at f BITS w) (get_or ts e 0)) (λ e. z_share f delta (at f BITS w) (at f ZS w) (at f ES w)
      (get_or ts e 0))
      (λ e. odd (get_or ds e 0)) (later f)
  unfolding triple_at abc leaky_and
  triple-z =
      combine-z _ _ (later f)
      ∙ z-ext shares (λ e. x_at (entry f (at f PERM w) j e)) (λ e. x_at (get_or ts e 0)) (later f) (λ e l. ap x_at (sym (ht e l)))
      (λ e. z_at (entry f (at f PERM w) j e)) (λ e. z_at (get_or ts e 0)) _ (λ e. odd (get_or ds e 0))
      (λ e l. ap z_at (sym (ht e l))) d-is

  -- from the sections as they were lent
  module _ (recs : List ℕ) (hr : recs ≡ at f BITS w) where
    pub bit-x : (b : Bool) → b ≡ bucket_x bits (λ e. (x_among (record_len f.n) recs ts e).bit) (length ds)
        → b ≡ (triple_at f delta w j).tx.bit
    unfolding x_among x
    bit-x b h =
        h ∙ (λ k. bucket_x bits (λ e. (x_among (record_len f.n) (hr k) ts e).bit) (long k))
        ∙ sym (bit-bucket-x (λ e. x_at (get_or ts e 0)) (later f))
        ∙ ap (λ (s : Share). s.bit) (sym triple-x)

    pub bit-z : (zs : List ℕ) (b : Bool) → zs ≡ at f ZS w
        → b ≡ bucket_z bits (λ e. (x_among (record_len f.n) recs ts e).bit) (λ e. odd (get_or zs ((get_or ts e 0 + 0) * 17) 0))
        (λ e. odd (get_or ds e 0)) (length ds)
        → b ≡ (triple_at f delta w j).tz.bit
    unfolding x_among x z_share Haand.z_at
    bit-z zs b hz h =
        h
        ∙ (λ k. bucket_z bits (λ e. (x_among (record_len f.n) (hr k) ts e).bit) (λ e. odd (get_or (hz k) (add-zero
        (get_or ts e 0) k * 17) 0))
        (λ e. odd (get_or ds e 0)) (long k))
        ∙ sym (bit-bucket-z (λ e. x_at (get_or ts e 0)) (later f) (λ e. z_at (get_or ts e 0)) (λ e. odd (get_or ds e 0)))
        ∙ ap (λ (s : Share). s.bit) (sym triple-z)

    pub entries_at : (es : List ℕ) (k : ℕ) (r : Sums) → es ≡ at f ES w
        → Entries f.i k (bucket_x shares (λ e. x f recs (get_or ts e 0)) (length ds))
        (bucket_z shares (λ e. x f recs (get_or ts e 0)) (λ e. z_share f delta recs (at f ZS w) es (get_or ts e 0)) (λ e. odd
        (get_or ds e 0))
        (length ds)) r
        → Entries f.i k (triple_at f delta w j).tx (triple_at f delta w j).tz r
    entries_at es k r he h = record {
      x-bytes = h.x-bytes
          ∙ ap (λ (s : Share). entry_of f.i s k) ((λ q. bucket_x shares (λ e. x f (hr q) (get_or ts e 0)) (long q)) ∙ sym triple-x);
      z-bytes = h.z-bytes
          ∙ ap (λ (s : Share). entry_of f.i s k)
          ((λ q. bucket_z shares (λ e. x f (hr q) (get_or ts e 0)) (λ e. z_share f delta (hr q) (at f ZS w) (he q) (get_or ts e 0))
          (λ e. odd (get_or ds e 0)) (long q))
          ∙ sym triple-z);
    }

-- ---- a row of TRIPLES
unfoldable pub row_of : Frame → Block → List ℕ → ℕ → List ℕ
row_of f delta w j = triple_row f (triple_at f delta w j)

module _ (f : Frame) (delta : Block) where
  -- another work area that has the same
  pub triple-kept : (w v : List ℕ) (j : ℕ) → ((s : ℕ) → s ≢ TRIPLES → at f s v ≡ at f s w) → triple_at f delta v j ≡ triple_at f delta w j
  unfolding triple_at
  triple-kept w v j h i =
      abc f delta (h BITS (λ e. omega arith) i) (h ZS (λ e. omega arith) i) (h ES (λ e. omega arith) i) (h PERM (λ e. omega arith) i)
      (h DS (λ e. omega arith) i) j

  pub row_kept : (w v : List ℕ) (j : ℕ) → ((s : ℕ) → s ≢ TRIPLES → at f s v ≡ at f s w) → row_of f delta v j ≡ row_of f delta w j
  unfolding row_of
  row_kept w v j h = ap (triple_row f) (triple-kept w v j h)

  pub row_is : (w : List ℕ) (j : ℕ)
      → record_of f.n f.i (triple_at f delta w j).tx ++ ([] ++ record_of f.n f.i (triple_at f delta w j).tz) ≡ row_of f delta w j
  unfolding row_of triple_row
  row_is w j = refl

  pub length-row_of : (w : List ℕ) (j : ℕ) → length (row_of f delta w j) ≡ 2 * record_len f.n
  unfolding row_of triple_row
  length-row_of w j =
      let g : Triple = triple_at f delta w j in
      length-append (record_of f.n f.i g.tx) (record_of f.n f.i g.tz)
      ∙ (omega (arith, length-record_of f.n f.i g.tx, length-record_of f.n f.i g.tz))

  pub rows_are : (w : List ℕ)
      → cat f.l (row_of f delta w) ≡ triple_rows f delta (at f BITS w) (at f ZS w) (at f ES w) (at f PERM w) (at f DS w)
  unfolding row_of triple_at triple_rows
  rows_are w = refl
