-- What is summed over a bucket, and what the sums are for party k.
use Rattle.std.specs.Prelude.{◌≡◌, Bool, not, ◌&&◌, ◌≢◌, List, ◌++◌, ℕ, suc, ◌+◌, ◌*◌, ◌<◌, ◌≤◌, length, get_or}
use Rattle.std.proofs.Math.Path.{sym, ap, ap₂}
use Rattle.std.proofs.Common.{◌∙◌, add-zero, mul-le-mul, mul-le-mul_right, arith}
use Rattle.std.specs.Bool.{beq}
use Rattle.algebra.specs.Group.{bits, addb, sel, xor-addb, xor-and}
use Rattle.algebra.specs.Bucket.{bucket_x, bucket_z, first-x, first-z, next-x, next-z}
use Rattle.block.specs.declared.Block.{Block}
use Rattle.block.specs.Block.{bytes_of}
use Rattle.block.specs.Group.{blocks}
use Rattle.share.specs.Layout.{record-some}
use Rattle.share.specs.Record.{record_len}
use Rattle.share.specs.Share.{Share, share_at, shares, entry_of}
use Rattle.share.specs.ShareLaws.{mac-sel, key-sel, entry-own, entry_other, zero-pair}
use Rattle.bucket_sum.specs.declared.Sums.{Sums}

-- the e-th x is record ts[e] of s, which has one every `len` bytes
unfoldable pub x_among : ℕ → List ℕ → List ℕ → ℕ → Share
x_among len s ts e = share_at s (get_or ts e 0 * len)

-- and its z lies `behind` records behind it
unfoldable pub z_among : ℕ → List ℕ → List ℕ → ℕ → ℕ → Share
z_among len s ts behind e = share_at s ((get_or ts e 0 + behind) * len)

-- `room` bytes at a step of `step` bytes for each record: all of them lie in s
abbrev pub Within : List ℕ → List ℕ → ℕ → ℕ → ℕ → Type 0
Within s ts behind step room = (e : ℕ) → e < length ts → (get_or ts e 0 + behind) * step + room ≤ length s

-- the records of a bucket lie in s, and d has a byte for each but the first
pub record BucketIn (n len : ℕ) (s ts : List ℕ) (behind : ℕ) (d : List ℕ) : Type 0 where
  pub few : n ≤ 8
  pub step : 1 ≤ len
  pub count : length ts ≡ length d + 1
  pub inside : Within s ts behind len (record_len n)

-- no number wraps where the bytes are there
pub step-most : (t step : ℕ) → 1 ≤ step → t ≤ t * step
step-most t step h = omega (arith, mul-le-mul (let e : t ≤ t = omega arith in e) h)

module _ {n len : ℕ} {s ts : List ℕ} {behind : ℕ} {d : List ℕ} (h : BucketIn n len s ts behind d) where
  -- the e-th of them
  module _ (e : ℕ) (l : e < length ts) where
    pub x_fits : get_or ts e 0 * len + record_len n ≤ length s
    x_fits = omega (arith, h.inside e l, mul-le-mul_right len (let w : get_or ts e 0 ≤ get_or ts e 0 + behind = omega arith in w))

    pub no_wrap : get_or ts e 0 + behind ≤ length s
    no_wrap = omega (arith, h.inside e l, step-most (get_or ts e 0 + behind) len h.step)

  -- the first bytes of all of them
  pub x-bits : Within s ts 0 len 1
  x-bits e l = omega (arith, x_fits e l, record-some n, ap (λ t. t * len) (add-zero (get_or ts e 0)))

  pub z-bits : Within s ts behind len 1
  z-bits e l = omega (arith, h.inside e l, record-some n)

-- ---- the sums for party k
pub record Summed (k : ℕ) (x z : Share) (r : Sums) : Type 0 where
  pub x-mac : r.x.mac.0 ≡ x.mac k
  pub x-key : r.x.key.0 ≡ x.key k
  pub z-mac : r.z.mac.0 ≡ z.mac k
  pub z-key : r.z.key.0 ≡ z.key k

-- party k's entries in party i's records of x and z
pub record Entries (i k : ℕ) (x z : Share) (r : Sums) : Type 0 where
  pub x-bytes : bytes_of r.x.mac.0 ++ bytes_of r.x.key.0 ≡ entry_of i x k
  pub z-bytes : bytes_of r.z.mac.0 ++ bytes_of r.z.key.0 ≡ entry_of i z k

module _ (i k : ℕ) (x z : Share) (r : Sums) where
  pub entries-other : i ≢ k → Summed k x z r → Entries i k x z r
  unfolding entry_of
  entries-other ne s = record {
    x-bytes = ap₂ (λ (m y : Block). bytes_of m ++ bytes_of y) s.x-mac s.x-key ∙ sym (entry_other i k (x.mac k) (x.key k) ne);
    z-bytes = ap₂ (λ (m y : Block). bytes_of m ++ bytes_of y) s.z-mac s.z-key ∙ sym (entry_other i k (z.mac k) (z.key k) ne);
  }

  -- nothing stands for the own number
  pub entries-own : i ≡ k → Summed k shares.nil shares.nil r → Entries i k x z r
  unfolding entry_of shares
  entries-own e s = record {
    x-bytes =
        ap₂ (λ (m y : Block). bytes_of m ++ bytes_of y) s.x-mac s.x-key ∙ zero-pair ∙ sym (entry-own i k (x.mac k) (x.key k) e);
    z-bytes =
        ap₂ (λ (m y : Block). bytes_of m ++ bytes_of y) s.z-mac s.z-key ∙ zero-pair ∙ sym (entry-own i k (z.mac k) (z.key k) e);
  }

-- ---- the first record of a bucket, and one more, its e-th: x + later, and z + next + d·later
pub summed-first : (k : ℕ) (xs zs : ℕ → Share) (d : ℕ → Bool) (r : Sums) → Summed k (xs 0) (zs 0) r
    → Summed k (bucket_x shares xs 0) (bucket_z shares xs zs d 0) r
summed-first k xs zs d r s = record {
  x-mac = s.x-mac ∙ ap (λ (t : Share). t.mac k) (sym (first-x shares xs));
  x-key = s.x-key ∙ ap (λ (t : Share). t.key k) (sym (first-x shares xs));
  z-mac = s.z-mac ∙ ap (λ (t : Share). t.mac k) (sym (first-z shares xs zs d));
  z-key = s.z-key ∙ ap (λ (t : Share). t.key k) (sym (first-z shares xs zs d));
}

module _ (k : ℕ) (xs zs : ℕ → Share) (d : ℕ → Bool) (c e : ℕ) (he : suc c ≡ e) where
  pub summed_turn : (r n : Sums) (b : Bool) (lm lk nm nk : Block) → Summed k (bucket_x shares xs c) (bucket_z shares xs zs d c) r
      → lm ≡ (xs e).mac k → lk ≡ (xs e).key k → nm ≡ (zs e).mac k → nk ≡ (zs e).key k → b ≡ d c
      → n.x.mac.0 ≡ blocks.op r.x.mac.0 lm → n.x.key.0 ≡ blocks.op r.x.key.0 lk
      → n.z.mac.0 ≡ blocks.op (blocks.op r.z.mac.0 nm) (sel blocks b lm)
      → n.z.key.0 ≡ blocks.op (blocks.op r.z.key.0 nk) (sel blocks b lk)
      → Summed k (bucket_x shares xs (suc c)) (bucket_z shares xs zs d (suc c)) n
  unfolding shares
  summed_turn r n b lm lk nm nk s hlm hlk hnm hnk hb xm xk zm zk = record {
    x-mac =
        xm ∙ ap₂ blocks.op s.x-mac (hlm ∙ ap (λ j. (xs j).mac k) (sym he)) ∙ sym (ap (λ (t : Share). t.mac k) (next-x shares xs c));
    x-key =
        xk ∙ ap₂ blocks.op s.x-key (hlk ∙ ap (λ j. (xs j).key k) (sym he)) ∙ sym (ap (λ (t : Share). t.key k) (next-x shares xs c));
    z-mac =
        zm
        ∙ ap₂ blocks.op (ap₂ blocks.op s.z-mac (hnm ∙ ap (λ j. (zs j).mac k) (sym he)))
        (ap₂ (sel blocks) hb (hlm ∙ ap (λ j. (xs j).mac k) (sym he)) ∙ sym (mac-sel (d c) (xs (suc c)) k))
        ∙ sym (ap (λ (t : Share). t.mac k) (next-z shares xs zs d c));
    z-key =
        zk
        ∙ ap₂ blocks.op (ap₂ blocks.op s.z-key (hnk ∙ ap (λ j. (zs j).key k) (sym he)))
        (ap₂ (sel blocks) hb (hlk ∙ ap (λ j. (xs j).key k) (sym he)) ∙ sym (key-sel (d c) (xs (suc c)) k))
        ∙ sym (ap (λ (t : Share). t.key k) (next-z shares xs zs d c));
  }

-- the same of bits, as the code has them
module _ (xs zs : ℕ → Bool) (d : ℕ → Bool) (c e : ℕ) (he : suc c ≡ e) where
  pub bit-turn-x : (a later : Bool) → a ≡ bucket_x bits xs c → later ≡ xs e → not (beq a later) ≡ bucket_x bits xs (suc c)
  bit-turn-x a later ha hl = xor-addb a later ∙ ap₂ addb ha (hl ∙ ap xs (sym he)) ∙ sym (next-x bits xs c)

  pub bit-turn-z : (a later next b : Bool) → a ≡ bucket_z bits xs zs d c → later ≡ xs e → next ≡ zs e → b ≡ d c
      → not (beq (not (beq a next)) (later && b)) ≡ bucket_z bits xs zs d (suc c)
  bit-turn-z a later next b ha hl hn hb =
      xor-and (not (beq a next)) later b
      ∙ ap₂ addb (xor-addb a next ∙ ap₂ addb ha (hn ∙ ap zs (sym he))) (ap₂ (sel bits) hb (hl ∙ ap xs (sym he)))
      ∙ sym (next-z bits xs zs d c)
