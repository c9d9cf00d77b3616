-- The public call's triples x1 y1 z1 x2 y2 z2 ..: where their records lie, and that the sums over them are what they combine to.
use Rattle.std.specs.Prelude.{◌≡◌, refl, Bool, List, [], ◌∷◌, ◌++◌, length, get_or, take, drop}
use Rattle.std.proofs.Math.Path.{sym, ap, ap₂}
use Rattle.std.proofs.Common.{◌∙◌, arith, length-drop, get_or-take, length-take-le}
use Prim.Native.Nat.{ℕ, zero, suc, ◌+◌, ◌*◌, ◌<◌, ◌≤◌}
use Rattle.lists.specs.Over.{in-chunks}
use Rattle.algebra.specs.Bucket.{bucket_x, bucket_z, x-ext, z-ext}
use Rattle.block.specs.Block.{block_at}
use Rattle.block.specs.Group.{blocks}
use Rattle.block.specs.Trip.{block-drop}
use Rattle.share.specs.Record.{mac_off, key_off, mac_at, key_at}
use Rattle.share.specs.Share.{Share, share_at, shares}
use Rattle.share.specs.ShareLaws.{mac_sum_lem, key_sum_lem, mac-bucket-z, key-bucket-z}
use Rattle.share.specs.Lent.{LABEL, lent_len, lent_at, lent_of}
use Rattle.share.specs.LentLaws.{lent_longer, head-within}
use Rattle.rounds.specs.Buckets.{Triple, combine}
use Rattle.rounds.specs.BucketLaws.{combine-x, combine-y, combine-z}
use Rattle.rounds.specs.Combine.{triple, records}
use Rattle.bucket_sum.specs.declared.Sums.{Sums}
use Rattle.bucket_sum.specs.Sums.{x_among, z_among, Within, BucketIn, Summed}

-- the e-th x is record ts[e] of s, and its z the second behind it
unfoldable pub x_lent : ℕ → List ℕ → List ℕ → ℕ → Share
x_lent n s ts e = lent_at s (get_or ts e 0 * lent_len n)

unfoldable pub z_lent : ℕ → List ℕ → List ℕ → ℕ → Share
z_lent n s ts e = lent_at s ((get_or ts e 0 + 2) * lent_len n)

-- ---- MACs and keys: those of the records without labels that lie a label's length behind
module _ (s : List ℕ) (at k : ℕ) where
  block-behind : (o : ℕ) → block_at (drop LABEL s) (at + o) ≡ block_at s (at + LABEL + o)
  block-behind o = block-drop s LABEL (at + o) ∙ ap (block_at s) (let e : LABEL + (at + o) ≡ at + LABEL + o = omega arith in e)

  mac-behind : (share_at (drop LABEL s) at).mac k ≡ (lent_at s at).mac k
  unfolding share_at lent_at mac_at
  mac-behind = block-behind (mac_off k)

  key-behind : (share_at (drop LABEL s) at).key k ≡ (lent_at s at).key k
  unfolding share_at lent_at key_at
  key-behind = block-behind (key_off k)

-- their sums for party k, then
module _ (n : ℕ) (s ts : List ℕ) (d : ℕ → Bool) (c k : ℕ) where
  abbrev xs : ℕ → Share
  xs = x_among (lent_len n) (drop LABEL s) ts

  abbrev zs : ℕ → Share
  zs = z_among (lent_len n) (drop LABEL s) ts 2

  x-mac : (e : ℕ) → (xs e).mac k ≡ (x_lent n s ts e).mac k
  unfolding x_among x_lent
  x-mac e = mac-behind s (get_or ts e 0 * lent_len n) k

  x-key : (e : ℕ) → (xs e).key k ≡ (x_lent n s ts e).key k
  unfolding x_among x_lent
  x-key e = key-behind s (get_or ts e 0 * lent_len n) k

  z-mac : (e : ℕ) → (zs e).mac k ≡ (z_lent n s ts e).mac k
  unfolding z_among z_lent
  z-mac e = mac-behind s ((get_or ts e 0 + 2) * lent_len n) k

  z-key : (e : ℕ) → (zs e).key k ≡ (z_lent n s ts e).key k
  unfolding z_among z_lent
  z-key e = key-behind s ((get_or ts e 0 + 2) * lent_len n) k

  pub summed-lent : (r : Sums)
      → Summed k (bucket_x shares (x_among (lent_len n) (drop LABEL s) ts) c)
      (bucket_z shares (x_among (lent_len n) (drop LABEL s) ts) (z_among (lent_len n) (drop LABEL s) ts 2) d c) r
      → Summed k (bucket_x shares (x_lent n s ts) c) (bucket_z shares (x_lent n s ts) (z_lent n s ts) d c) r
  unfolding bucket_x
  summed-lent r h =
      let X : ℕ → Share = x_lent n s ts in
      let Z : ℕ → Share = z_lent n s ts in
      record {
        x-mac = h.x-mac ∙ mac_sum_lem (suc c) xs k ∙ x-ext blocks (λ e. (xs e).mac k) (λ e. (X e).mac k) c (λ e l. x-mac e)
            ∙ sym (mac_sum_lem (suc c) X k);
        x-key = h.x-key ∙ key_sum_lem (suc c) xs k ∙ x-ext blocks (λ e. (xs e).key k) (λ e. (X e).key k) c (λ e l. x-key e)
            ∙ sym (key_sum_lem (suc c) X k);
        z-mac = h.z-mac ∙ mac-bucket-z xs c zs d k
            ∙ z-ext blocks (λ e. (xs e).mac k) (λ e. (X e).mac k) c (λ e l. x-mac e) (λ e. (zs e).mac k) (λ e. (Z e).mac k) d d
            (λ e l. z-mac e) (λ e l. refl)
            ∙ sym (mac-bucket-z X c Z d k);
        z-key = h.z-key ∙ key-bucket-z xs c zs d k
            ∙ z-ext blocks (λ e. (xs e).key k) (λ e. (X e).key k) c (λ e l. x-key e) (λ e. (zs e).key k) (λ e. (Z e).key k) d d
            (λ e l. z-key e) (λ e l. refl)
            ∙ sym (key-bucket-z X c Z d k);
      }

-- ---- where they lie
-- the number of each triple's x among the records
abbrev pub x_places : List ℕ
x_places = 0 ∷ 3 ∷ 6 ∷ 9 ∷ 12 ∷ []

place_of : (e : ℕ) → e < 5 → get_or x_places e 0 ≡ 3 * e
place_of zero h = refl
place_of (suc zero) h = refl
place_of (suc (suc zero)) h = refl
place_of (suc (suc (suc zero))) h = refl
place_of (suc (suc (suc (suc zero)))) h = refl
place_of (suc (suc (suc (suc (suc e))))) h = absurd (omega arith)

-- c + 1 triples
module _ (n c : ℕ) (few : c ≤ 4) (s : List ℕ) where
  abbrev ts : List ℕ
  ts = take (c + 1) x_places

  long : length ts ≡ c + 1
  long = length-take-le (c + 1) x_places (omega arith)

  at : (e : ℕ) → e < suc c → get_or ts e 0 ≡ 3 * e
  at e l = get_or-take (c + 1) x_places e 0 (omega arith) ∙ place_of e (omega arith)

  -- their MACs and keys
  pub triples-in : (d : List ℕ) → n ≤ 8 → length d ≡ c → length s ≡ 3 * (c + 1) * lent_len n
      → BucketIn n (lent_len n) (drop LABEL s) (take (c + 1) x_places) 2 d
  triples-in d h hd hs = record {
    few = h;
    step = omega (arith, head-within n);
    count = long ∙ ap (λ k. k + 1) (sym hd);
    inside = λ e l.
        let v : e < suc c = omega (arith, long) in
        omega (
          arith,
          hs,
          in-chunks (3 * e + 2) (3 * (c + 1)) (lent_len n) (omega arith),
          ap (λ k. (k + 2) * lent_len n) (at e v),
          length-drop LABEL s,
          lent_longer n,
        );
  }

  -- the y of triple t lies within
  pub y-inside : (t : ℕ) → t ≤ c → length s ≡ 3 * (c + 1) * lent_len n → (3 * t + 1) * lent_len n + lent_len n ≤ length s
  y-inside t h hs = omega (arith, hs, in-chunks (3 * t + 1) (3 * (c + 1)) (lent_len n) (omega arith))

  module _ (d : ℕ → Bool) where
    abbrev g : ℕ → Triple
    g = triple n s

    same-x : (e : ℕ) → e < suc c → x_lent n s ts e ≡ (g e).tx
    unfolding x_lent triple
    same-x e l = ap (λ k. lent_at s (k * lent_len n)) (at e l)

    same-z : (e : ℕ) → e < suc c → z_lent n s ts e ≡ (g e).tz
    unfolding z_lent triple
    same-z e l = ap (λ k. lent_at s ((k + 2) * lent_len n)) (at e l)

    sum-x : bucket_x shares (x_lent n s ts) c ≡ (combine g d c).tx
    sum-x = x-ext shares (x_lent n s ts) (λ e. (g e).tx) c same-x ∙ sym (combine-x g d c)

    sum-z : bucket_z shares (x_lent n s ts) (z_lent n s ts) d c ≡ (combine g d c).tz
    sum-z =
        z-ext shares (x_lent n s ts) (λ e. (g e).tx) c same-x (z_lent n s ts) (λ e. (g e).tz) d d same-z (λ e l. refl)
        ∙ sym (combine-z g d c)

    pub sum-records : (i : ℕ)
        → lent_of n i (bucket_x shares (x_lent n s (take (c + 1) x_places)) c)
        ++ (lent_of n i (triple n s 0).ty
        ++ lent_of n i (bucket_z shares (x_lent n s (take (c + 1) x_places)) (z_lent n s (take (c + 1) x_places)) d c))
        ≡ records n i (combine (triple n s) d c)
    unfolding records
    sum-records i =
        ap₂ (λ (x z : Share). lent_of n i x ++ (lent_of n i (g 0).ty ++ lent_of n i z)) sum-x sum-z
        ∙ ap (λ (y : Share). lent_of n i (combine g d c).tx ++ (lent_of n i y ++ lent_of n i (combine g d c).tz))
        (sym (combine-y g d c))

-- their bits, which lie before the others' parts
pub bits_in : (s ts : List ℕ) (behind step : ℕ) → Within (drop LABEL s) ts behind step 1 → Within s ts behind step 1
bits_in s ts behind step h e l = omega (arith, h e l, length-drop LABEL s)
