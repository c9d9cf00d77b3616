-- Laws about shares and the records that hold them.
use Rattle.std.specs.Prelude.{◌≡◌, Bool, ◌≢◌, drop, replicate}
use Rattle.std.proofs.Math.Path.{refl, sym, ap, ap₂}
use Rattle.std.proofs.Common.{◌∙◌, le_refl, drop_at, drop-drop, get_or-take}
use Rattle.std.proofs.Math.Bool.{true, false}
use mathlib.Core.List.{List, [], ◌++◌, append-nil}
use Prim.Native.Nat.{ℕ, zero, suc, ◌+◌, ◌*◌, ◌<◌, ◌≤◌}
use native.Mathlib.Omega.{arith}
use Rattle.std.proofs.Math.ListN.{length, take, length-append}
use Rattle.std.proofs.Math.Seq.{get_or-drop}
use Rattle.lists.specs.Pick.{pick}
use Rattle.lists.specs.Over.{cat, length-cat}
use Rattle.lists.specs.Sect.{get}
use Rattle.lists.specs.Rows.{chunk, chunk-cat, cat-ext}
use Rattle.lists.specs.Bytes.{Bytes, bytes-append, bytes-cat, bytes-replicate}
use Rattle.algebra.specs.Group.{bits, addb, sel, odd, num, odd-num}
use Rattle.algebra.specs.Sum.{sum, sum-ext, neq, neq-own, neq-true, Same, apart, apart?}
use Rattle.algebra.specs.Bucket.{bucket_x, bucket_z}
use Rattle.block.specs.declared.Block.{Block}
use Rattle.block.specs.Block.{word_at, block_at, bytes_of, le8, zero_of}
use Rattle.block.specs.Group.{blocks}
use Rattle.block.specs.Trip.{Small, small-xor, small-nil, length-bytes_of, bytes-bytes_of, block-bytes_of, block_at_lem, block-drop, block-take}
use Rattle.block.specs.Trip.{block-get}
use Rattle.share.specs.Layout.{ENTRY, head_of, head-end, mac-behind, key-behind, record-ends, entry-within, record-some, bit-first}
use Rattle.share.specs.Layout.{bytes-head}
use Rattle.share.specs.Record.{record_len, mac_off, key_off, bit_at, mac_at, key_at}
use Rattle.share.specs.RecordLaws.{bit-part, mac-part, key-part, small-mac, small-key}
use Rattle.share.specs.Share.{Share, share_at, shares, entry_bytes, entry_of, record_of}

-- ---- a bit times a share, part by part
pub bit-sel : (d : Bool) (a : Share) → (sel shares d a).bit ≡ sel bits d a.bit
unfolding shares
bit-sel false a = refl
bit-sel true a = refl

pub mac-sel : (d : Bool) (a : Share) (k : ℕ) → (sel shares d a).mac k ≡ sel blocks d (a.mac k)
unfolding shares
mac-sel false a k = refl
mac-sel true a k = refl

pub key-sel : (d : Bool) (a : Share) (k : ℕ) → (sel shares d a).key k ≡ sel blocks d (a.key k)
unfolding shares
key-sel false a k = refl
key-sel true a k = refl

pub bit_sum_lem : (m : ℕ) (f : ℕ → Share) → (sum shares m f).bit ≡ sum bits m (λ j. (f j).bit)
unfolding sum shares
bit_sum_lem zero f = refl
bit_sum_lem (suc m) f = ap (λ (b : Bool). addb b (f m).bit) (bit_sum_lem m f)

pub mac_sum_lem : (m : ℕ) (f : ℕ → Share) (k : ℕ) → (sum shares m f).mac k ≡ sum blocks m (λ j. (f j).mac k)
unfolding sum shares
mac_sum_lem zero f k = refl
mac_sum_lem (suc m) f k = ap (λ (b : Block). blocks.op b ((f m).mac k)) (mac_sum_lem m f k)

pub key_sum_lem : (m : ℕ) (f : ℕ → Share) (k : ℕ) → (sum shares m f).key k ≡ sum blocks m (λ j. (f j).key k)
unfolding sum shares
key_sum_lem zero f k = refl
key_sum_lem (suc m) f k = ap (λ (b : Block). blocks.op b ((f m).key k)) (key_sum_lem m f k)

-- ---- a bucket, part by part
module _ (x : ℕ → Share) (c : ℕ) where
  pub bit-bucket-x : (bucket_x shares x c).bit ≡ bucket_x bits (λ e. (x e).bit) c
  unfolding bucket_x
  bit-bucket-x = bit_sum_lem (suc c) x

  module _ (z : ℕ → Share) (d : ℕ → Bool) where
    pub bit-bucket-z : (bucket_z shares x z d c).bit ≡ bucket_z bits (λ e. (x e).bit) (λ e. (z e).bit) d c
    unfolding bucket_z shares
    bit-bucket-z =
        ap₂ addb (bit_sum_lem (suc c) z)
        (bit_sum_lem c (λ e. sel shares (d e) (x (suc e)))
        ∙ sum-ext bits c _ (λ e. sel bits (d e) (x (suc e)).bit) (λ e l. bit-sel (d e) (x (suc e))))

    pub mac-bucket-z : (k : ℕ) → (bucket_z shares x z d c).mac k ≡ bucket_z blocks (λ e. (x e).mac k) (λ e. (z e).mac k) d c
    unfolding bucket_z shares
    mac-bucket-z k =
        ap₂ blocks.op (mac_sum_lem (suc c) z k)
        (mac_sum_lem c (λ e. sel shares (d e) (x (suc e))) k
        ∙ sum-ext blocks c _ (λ e. sel blocks (d e) ((x (suc e)).mac k)) (λ e l. mac-sel (d e) (x (suc e)) k))

    pub key-bucket-z : (k : ℕ) → (bucket_z shares x z d c).key k ≡ bucket_z blocks (λ e. (x e).key k) (λ e. (z e).key k) d c
    unfolding bucket_z shares
    key-bucket-z k =
        ap₂ blocks.op (key_sum_lem (suc c) z k)
        (key_sum_lem c (λ e. sel shares (d e) (x (suc e))) k
        ∙ sum-ext blocks c _ (λ e. sel blocks (d e) ((x (suc e)).key k)) (λ e l. key-sel (d e) (x (suc e)) k))

-- ---- what is read
module _ (s : List ℕ) (at : ℕ) where
  pub bit_at_lem : (share_at s at).bit ≡ bit_at s at
  unfolding share_at
  bit_at_lem = refl

  pub mac-at : (k : ℕ) → (share_at s at).mac k ≡ mac_at s at k
  unfolding share_at
  mac-at k = refl

  pub key-at : (k : ℕ) → (share_at s at).key k ≡ key_at s at k
  unfolding share_at
  key-at k = refl

-- ---- MACs and keys that fit a Block: kept by sums
pub record SmallShare (n : ℕ) (x : Share) : Type 0 where
  pub mac : (k : ℕ) → k < n → Small (x.mac k)
  pub key : (k : ℕ) → k < n → Small (x.key k)

module _ (n : ℕ) where
  pub small-share-at : (s : List ℕ) (at : ℕ) → Bytes s → SmallShare n (share_at s at)
  unfolding share_at
  small-share-at s at h = record { mac = λ k l. small-mac s h at k; key = λ k l. small-key s h at k }

  pub small-share-nil : SmallShare n shares.nil
  unfolding shares
  small-share-nil = record { mac = λ k l. small-nil; key = λ k l. small-nil }

  pub small-share-op : (a b : Share) → SmallShare n a → SmallShare n b → SmallShare n (shares.op a b)
  unfolding shares
  small-share-op a b h g = record {
    mac = λ k l. small-xor (a.mac k) (b.mac k) (h.mac k l) (g.mac k l);
    key = λ k l. small-xor (a.key k) (b.key k) (h.key k l) (g.key k l);
  }

  pub small-share-sel : (d : Bool) (a : Share) → SmallShare n a → SmallShare n (sel shares d a)
  small-share-sel false a h = small-share-nil
  small-share-sel true a h = h

  pub small-share-sum : (m : ℕ) (f : ℕ → Share) → ((j : ℕ) → j < m → SmallShare n (f j)) → SmallShare n (sum shares m f)
  unfolding sum
  small-share-sum zero f h = small-share-nil
  small-share-sum (suc m) f h =
      small-share-op (sum shares m f) (f m) (small-share-sum m f (λ j l. h j (omega arith))) (h m (le_refl (suc m)))

-- ---- entries and records: lengths and bytes
module _ (i k : ℕ) (m y : Block) where
  pub entry_other : i ≢ k → entry_bytes i k m y ≡ bytes_of m ++ bytes_of y
  unfolding entry_bytes
  entry_other ne = ap (λ (b : Bool). pick b (bytes_of m ++ bytes_of y) (replicate ENTRY 0)) (neq-true i k ne)

  pub entry-own : i ≡ k → entry_bytes i k m y ≡ replicate ENTRY 0
  unfolding entry_bytes
  entry-own e = ap (λ (b : Bool). pick b (bytes_of m ++ bytes_of y) (replicate ENTRY 0)) (neq-own i k e)

  length-pair : length (bytes_of m ++ bytes_of y) ≡ ENTRY
  length-pair = length-append (bytes_of m) (bytes_of y) ∙ ap₂ ◌+◌ (length-bytes_of m) (length-bytes_of y)

  pub length-entry : length (entry_bytes i k m y) ≡ ENTRY
  unfolding entry_bytes
  length-entry = go (neq i k)
    where
      go : (b : Bool) → length (pick b (bytes_of m ++ bytes_of y) (replicate ENTRY 0)) ≡ ENTRY
      go true = length-pair
      go false = refl

  pub bytes-entry : Bytes (entry_bytes i k m y)
  unfolding entry_bytes
  bytes-entry = go (neq i k)
    where
      go : (b : Bool) → Bytes (pick b (bytes_of m ++ bytes_of y) (replicate ENTRY 0))
      go true = bytes-append (bytes_of m) (bytes_of y) (bytes-bytes_of m) (bytes-bytes_of y)
      go false = bytes-replicate ENTRY 0 (omega arith)

-- an entry of two Blocks that are zero
pub zero-pair : bytes_of blocks.nil ++ bytes_of blocks.nil ≡ replicate ENTRY 0
unfolding bytes_of le8 blocks zero_of
zero-pair = refl

pub length-entry_of : (i : ℕ) (x : Share) (k : ℕ) → length (entry_of i x k) ≡ ENTRY
unfolding entry_of
length-entry_of i x k = length-entry i k (x.mac k) (x.key k)

module _ (n i : ℕ) (x : Share) where
  pub length-record_of : length (record_of n i x) ≡ record_len n
  unfolding record_of
  length-record_of =
      length-append (head_of x.bit) (cat n (entry_of i x))
      ∙ ap₂ ◌+◌ (head-end x.bit) (length-cat n ENTRY (entry_of i x) (λ k h. length-entry_of i x k)) ∙ sym (record-ends n ∙ mac-behind n)

  num-byte : (b : Bool) → num b < 256
  num-byte false = omega arith
  num-byte true = omega arith

  pub bytes-record_of : Bytes (record_of n i x)
  unfolding record_of entry_of
  bytes-record_of =
      bytes-append (head_of x.bit) (cat n (entry_of i x)) (bytes-head x.bit (num-byte x.bit))
      (bytes-cat n (entry_of i x) (λ k h. bytes-entry i k (x.mac k) (x.key k)))

-- ---- two shares that party i's records among n parties do not tell apart
pub record Agree (n i : ℕ) (x y : Share) : Type 0 where
  pub bit : x.bit ≡ y.bit
  pub mac : (k : ℕ) → k < n → i ≢ k → x.mac k ≡ y.mac k
  pub key : (k : ℕ) → k < n → i ≢ k → x.key k ≡ y.key k

module _ (n i : ℕ) where
  pub agree-record : (x y : Share) → Agree n i x y → record_of n i x ≡ record_of n i y
  unfolding record_of entry_of entry_bytes
  agree-record x y h =
      ap₂ (λ b (l : List ℕ). head_of b ++ l) h.bit (cat-ext n (entry_of i x) (entry_of i y) (λ k l. go k l (neq i k) (apart? i k)))
    where
      go : (k : ℕ) → k < n → (b : Bool) → Same i k b
          → pick b (bytes_of (x.mac k) ++ bytes_of (x.key k)) (replicate ENTRY 0) ≡ pick b (bytes_of (y.mac k) ++ bytes_of (y.key k)) (replicate ENTRY 0)
      go k l false e = refl
      go k l true (apart ne) = ap₂ (λ (m z : Block). bytes_of m ++ bytes_of z) (h.mac k l ne) (h.key k l ne)

  pub agree-op : (a b c d : Share) → Agree n i a c → Agree n i b d → Agree n i (shares.op a b) (shares.op c d)
  unfolding shares
  agree-op a b c d h g = record {
    bit = ap₂ addb h.bit g.bit;
    mac = λ k l ne. ap₂ blocks.op (h.mac k l ne) (g.mac k l ne);
    key = λ k l ne. ap₂ blocks.op (h.key k l ne) (g.key k l ne);
  }

  pub agree_refl : (x : Share) → Agree n i x x
  agree_refl x = record { bit = refl; mac = λ k l ne. refl; key = λ k l ne. refl }

  pub agree-sel : (d : Bool) (a b : Share) → Agree n i a b → Agree n i (sel shares d a) (sel shares d b)
  agree-sel false a b h = agree_refl shares.nil
  agree-sel true a b h = h

-- ---- two shares that are the same among n parties
pub record Alike (n : ℕ) (x y : Share) : Type 0 where
  pub bit : x.bit ≡ y.bit
  pub mac : (k : ℕ) → k < n → x.mac k ≡ y.mac k
  pub key : (k : ℕ) → k < n → x.key k ≡ y.key k

module _ (n : ℕ) where
  pub alike-op : (a b c d : Share) → Alike n a c → Alike n b d → Alike n (shares.op a b) (shares.op c d)
  unfolding shares
  alike-op a b c d h g = record {
    bit = ap₂ addb h.bit g.bit;
    mac = λ k l. ap₂ blocks.op (h.mac k l) (g.mac k l);
    key = λ k l. ap₂ blocks.op (h.key k l) (g.key k l);
  }

  pub alike-agree : (i : ℕ) (x y : Share) → Alike n x y → Agree n i x y
  alike-agree i x y h = record { bit = h.bit; mac = λ k l ne. h.mac k l; key = λ k l ne. h.key k l }

  -- a record is read where it stands as in a part of m bytes from o on that has it whole
  pub alike-get : (s : List ℕ) (o m at : ℕ) → at + record_len n ≤ m → Alike n (share_at s (o + at)) (share_at (get o m s) at)
  unfolding share_at bit_at mac_at key_at
  alike-get s o m at h = record {
    bit = ap odd (sym (get_or-take m (drop o s) at 0 (omega (arith, record-some n)) ∙ get_or-drop o s at 0));
    mac = λ k l. block (mac_off k) (omega (arith, entry-within n k l));
    key = λ k l. block (key_off k) (omega (arith, key-behind k, entry-within n k l));
  }
    where
      block : (b : ℕ) → b + 16 ≤ record_len n → block_at s (o + at + b) ≡ block_at (get o m s) (at + b)
      block b l = ap (block_at s) (let e : o + at + b ≡ o + (at + b) = omega arith in e) ∙ sym (block-get s o m (at + b) (omega arith))

-- ---- written, then read
module _ (n i : ℕ) (x : Share) where
  entry-part : (k : ℕ) → k < n → take ENTRY (drop (mac_off k) (record_of n i x)) ≡ entry_of i x k
  unfolding record_of chunk
  entry-part k h =
      let r : List ℕ = cat n (entry_of i x) in
      ap (λ a. take ENTRY (drop a (head_of x.bit ++ r))) (mac-behind k ∙ ap (λ a. a + k * ENTRY) (sym (head-end x.bit)))
      ∙ ap (take ENTRY) (sym (drop-drop (k * ENTRY) (length (head_of x.bit)) (head_of x.bit ++ r))
      ∙ ap (drop (k * ENTRY)) (drop_at (head_of x.bit) r (length (head_of x.bit)) refl))
      ∙ chunk-cat ENTRY n (entry_of i x) (λ j l. length-entry_of i x j) k h

  part-block : (k o : ℕ) → k < n → o + 16 ≤ ENTRY → block_at (record_of n i x) (mac_off k + o) ≡ block_at (entry_of i x k) o
  part-block k o h w =
      sym (block-take (drop (mac_off k) (record_of n i x)) ENTRY o w ∙ block-drop (record_of n i x) (mac_off k) o)
      ∙ ap (λ (s : List ℕ). block_at s o) (entry-part k h)

  entry-mac : (k : ℕ) → k < n → mac_at (record_of n i x) 0 k ≡ block_at (entry_of i x k) 0
  unfolding mac_at
  entry-mac k h = ap (block_at (record_of n i x)) (let e : 0 + mac_off k ≡ mac_off k + 0 = omega arith in e) ∙ part-block k 0 h (omega arith)

  entry_key : (k : ℕ) → k < n → key_at (record_of n i x) 0 k ≡ block_at (entry_of i x k) 16
  unfolding key_at
  entry_key k h = ap (block_at (record_of n i x)) (let e : 0 + key_off k ≡ mac_off k + 16 = omega (arith, key-behind k) in e) ∙ part-block k 16 h (omega arith)

-- wherever a record of x stands
module _ (n i : ℕ) (x : Share) (s : List ℕ) (at : ℕ) (here : take (record_len n) (drop at s) ≡ record_of n i x) where
  pub bit-here : bit_at s at ≡ x.bit
  unfolding bit_at record_of
  bit-here =
      sym (bit-part n at s) ∙ ap (λ (l : List ℕ). bit_at l 0) here ∙ ap odd (bit-first x.bit (cat n (entry_of i x))) ∙ odd-num x.bit

  mac-entry : (k : ℕ) → k < n → mac_at s at k ≡ block_at (entry_of i x k) 0
  mac-entry k h = sym (mac-part n at s k h) ∙ ap (λ (l : List ℕ). mac_at l 0 k) here ∙ entry-mac n i x k h

  key-entry : (k : ℕ) → k < n → key_at s at k ≡ block_at (entry_of i x k) 16
  key-entry k h = sym (key-part n at s k h) ∙ ap (λ (l : List ℕ). key_at l 0 k) here ∙ entry_key n i x k h

  pub mac-here : (k : ℕ) → k < n → i ≢ k → Small (x.mac k) → mac_at s at k ≡ x.mac k
  unfolding entry_of
  mac-here k h ne sm =
      mac-entry k h ∙ ap (λ (l : List ℕ). block_at l 0) (entry_other i k (x.mac k) (x.key k) ne)
      ∙ block-bytes_of (x.mac k) (bytes_of (x.key k)) sm

  pub key_here : (k : ℕ) → k < n → i ≢ k → Small (x.key k) → key_at s at k ≡ x.key k
  unfolding entry_of
  key_here k h ne sm =
      key-entry k h
      ∙ ap (λ (l : List ℕ). block_at l 16)
      (entry_other i k (x.mac k) (x.key k) ne ∙ ap (λ (l : List ℕ). bytes_of (x.mac k) ++ l) (sym (append-nil (bytes_of (x.key k)))))
      ∙ block_at_lem (bytes_of (x.mac k)) (x.key k) [] 16 (length-bytes_of (x.mac k)) sm

  -- the own entry is zero
  pub own-here : i < n → (mac_at s at i ≡ blocks.nil) × (key_at s at i ≡ blocks.nil)
  unfolding entry_of block_at word_at blocks zero_of
  own-here l = (
    mac-entry i l ∙ ap (λ (r : List ℕ). block_at r 0) (entry-own i i (x.mac i) (x.key i) refl),
    key-entry i l ∙ ap (λ (r : List ℕ). block_at r 16) (entry-own i i (x.mac i) (x.key i) refl),
  )

  -- and is read as it was written
  pub read_here : SmallShare n x → Agree n i (share_at s at) x
  unfolding share_at
  read_here sm = record {
    bit = bit-here;
    mac = λ k l ne. mac-here k l ne (sm.mac k l);
    key = λ k l ne. key_here k l ne (sm.key k l);
  }

-- record t of a list of records
pub record-row : (n i count : ℕ) (f : ℕ → Share) (t : ℕ) → t < count
    → take (record_len n) (drop (t * record_len n) (cat count (λ j. record_of n i (f j)))) ≡ record_of n i (f t)
unfolding chunk
record-row n i count f t h = chunk-cat (record_len n) count (λ j. record_of n i (f j)) (λ j l. length-record_of n i (f j)) t h
