-- Every item decodes with its own length, whatever follows it.
use Rattle.std.specs.Prelude.{◌≡◌, refl, Bool, true, false, ℕ, zero, suc, ◌+◌, ◌-◌, ◌*◌, ◌^◌, ◌<◌, ◌≤◌, length, drop, eqb}
use Rattle.std.proofs.Math.Path.{sym, ap, ap₂}
use Rattle.std.proofs.Common.{◌∙◌, add-zero, mul-one, eq-eqb, lt-ltb, le-leb}
use mathlib.Core.List.{List, [], ◌∷◌, ◌++◌, append_assoc}
use native.Mathlib.Omega.{arith}
use Rattle.std.proofs.Math.ListN.{get_or, length-append, get_or-append}
use Rattle.std.proofs.Math.Seq.{drop_at}
use Rattle.lists.specs.Over.{cat, length-cat}
use Rattle.lists.specs.Bytes.{Bytes, bytes-nil, bytes-cons, bytes-append, bytes-cat}
use Rattle.lists.specs.Rows.{chunk-cat, get_d_chunk, cat-ext}
use Rattle.algebra.specs.Group.{num}
use Rattle.block.specs.declared.Block.{Block}
use Rattle.block.specs.Block.{word_at, le8, bytes_of}
use Rattle.block.specs.Trip.{length-le8, length-bytes_of, word-le8, word-drop, bytes-le8, bytes-bytes_of}
use Rattle.message.specs.declared.Kind.{Kind}
use Rattle.message.specs.declared.Kind.TheVariants.{Items, Dms, Dvalues, Options}
use Rattle.message.specs.Format.{bools, vec_len, item_len, item_of, item_due}
use Rattle.message.specs.FormatLaws.{and-true, bools-of, vec-some, items-some, bucket-some, bucket-due}
use Rattle.encode.specs.Encode.{encode, bit_block, two_bits, three_hashes, two_bits_two_blocks, dm_item, dvalue_item, none_item, some_item}

-- x is an item of kind K
pub record Coded (K : Kind) (x : List ℕ) : Type 0 where
  pub len : (rest : List ℕ) → item_len K (x ++ rest) ≡ length x
  pub some : 0 < length x
  pub due : (rest : List ℕ) → item_due K (item_of K (x ++ rest)) ≡ true

pub num-le : (b : Bool) → num b ≤ 1
num-le true = omega arith
num-le false = omega arith

-- ---- a fixed number of bytes, the first c of them bools
pub coded-items : (size c : ℕ) (x : List ℕ) → 0 < size → c ≤ size → length x ≡ size → ((k : ℕ) → k < c → get_or x k 0 ≤ 1)
    → Coded (Items size c) x
unfolding item_due
coded-items size c x h l e b = record {
  len = λ rest. items-some size c (x ++ rest) (omega (arith, length-append x rest)) (bools-of (x ++ rest) c (λ k j. bit rest k j)) ∙ sym e;
  some = omega arith;
  due = λ rest. refl;
}
  where
    bit : (rest : List ℕ) (k : ℕ) → k < c → get_or (x ++ rest) k 0 ≤ 1
    bit rest k j = rw (get_or-append x rest 0 k (omega arith)) (b k j)

pub coded-bytes : (size : ℕ) (x : List ℕ) → 0 < size → length x ≡ size → Coded (Items size 0) x
coded-bytes size x h e = coded-items size 0 x h (omega arith) e (λ k j. absurd (omega arith))

pub length-bit_block : (b : Bool) (x : Block) → length (bit_block b x) ≡ 17
unfolding bit_block
length-bit_block b x = ap suc (length-bytes_of x)

pub coded-bit_block : (b : Bool) (x : Block) → Coded (Items 17 1) (bit_block b x)
unfolding bit_block
coded-bit_block b x = coded-items 17 1 (bit_block b x) (omega arith) (omega arith) (length-bit_block b x) bit
  where
    bit : (k : ℕ) → k < 1 → get_or (bit_block b x) k 0 ≤ 1
    bit zero j = num-le b
    bit (suc k) j = absurd (omega arith)

pub length-two_bits : (a b : Bool) → length (two_bits a b) ≡ 2
unfolding two_bits
length-two_bits a b = refl

pub coded-two_bits : (a b : Bool) → Coded (Items 2 2) (two_bits a b)
unfolding two_bits
coded-two_bits a b = coded-items 2 2 (two_bits a b) (omega arith) (omega arith) (length-two_bits a b) bit
  where
    bit : (k : ℕ) → k < 2 → get_or (two_bits a b) k 0 ≤ 1
    bit zero j = num-le a
    bit (suc zero) j = num-le b
    bit (suc (suc k)) j = absurd (omega arith)

pub length-two_bits_two_blocks : (d e : Bool) (x y : Block) → length (two_bits_two_blocks d e x y) ≡ 34
unfolding two_bits_two_blocks
length-two_bits_two_blocks d e x y =
    ap (λ (n : ℕ). suc (suc n)) (length-append (bytes_of x) (bytes_of y) ∙ ap₂ ◌+◌ (length-bytes_of x) (length-bytes_of y))

pub coded-two_bits_two_blocks : (d e : Bool) (x y : Block) → Coded (Items 34 2) (two_bits_two_blocks d e x y)
unfolding two_bits_two_blocks
coded-two_bits_two_blocks d e x y =
    coded-items 34 2 (two_bits_two_blocks d e x y) (omega arith) (omega arith) (length-two_bits_two_blocks d e x y) bit
  where
    bit : (k : ℕ) → k < 2 → get_or (two_bits_two_blocks d e x y) k 0 ≤ 1
    bit zero j = num-le d
    bit (suc zero) j = num-le e
    bit (suc (suc k)) j = absurd (omega arith)

-- a byte, a hash, three hashes, a Block
pub coded-byte : (b : ℕ) → Coded (Items 1 0) (b ∷ [])
coded-byte b = coded-bytes 1 (b ∷ []) (omega arith) refl

pub coded-hash : (h : List ℕ) → length h ≡ 32 → Coded (Items 32 0) h
coded-hash h e = coded-bytes 32 h (omega arith) e

pub length-three_hashes : (a b c : List ℕ) → length a ≡ 32 → length b ≡ 32 → length c ≡ 32 → length (three_hashes a b c) ≡ 96
unfolding three_hashes
length-three_hashes a b c ha hb hc = omega (arith, length-append a (b ++ c), length-append b c)

pub coded-three_hashes : (a b c : List ℕ) → length a ≡ 32 → length b ≡ 32 → length c ≡ 32 → Coded (Items 96 0) (three_hashes a b c)
coded-three_hashes a b c ha hb hc = coded-bytes 96 (three_hashes a b c) (omega arith) (length-three_hashes a b c ha hb hc)

pub coded-block : (x : Block) → Coded (Items 16 0) (bytes_of x)
coded-block x = coded-bytes 16 (bytes_of x) (omega arith) (length-bytes_of x)

-- ---- a list within a list: a count, and items of a fixed size
pub length-encode : (size c : ℕ) (g : ℕ → List ℕ) → ((t : ℕ) → t < c → length (g t) ≡ size) → length (encode c g) ≡ 8 + c * size
unfolding encode
length-encode size c g h = length-append (le8 c) (cat c g) ∙ ap₂ ◌+◌ (length-le8 c) (length-cat c size g h)

-- items that agree make the same list
pub encode-ext : (c : ℕ) (g h : ℕ → List ℕ) → ((t : ℕ) → t < c → g t ≡ h t) → encode c g ≡ encode c h
unfolding encode
encode-ext c g h e = ap (λ (s : List ℕ). le8 c ++ s) (cat-ext c g h e)

pub count-encode : (c : ℕ) (g : ℕ → List ℕ) (rest : List ℕ) → c < 2 ^ 64 → word_at (encode c g ++ rest) 0 ≡ c
unfolding encode
count-encode c g rest h =
    ap (λ (s : List ℕ). word_at s 0) (append_assoc (le8 c) (cat c g) rest) ∙ word-le8 c (cat c g ++ rest) h

pub vec-encode : (size c : ℕ) (g : ℕ → List ℕ) (rest : List ℕ) → c < 2 ^ 64 → ((t : ℕ) → t < c → length (g t) ≡ size)
    → vec_len size (encode c g ++ rest) ≡ 8 + c * size
vec-encode size c g rest h l =
    let e = count-encode c g rest h in
    let n : 8 + word_at (encode c g ++ rest) 0 * size ≤ length (encode c g ++ rest) =
    rw e (omega (arith, length-append (encode c g) rest, length-encode size c g l)) in
    vec-some size (encode c g ++ rest) n ∙ ap (λ w. 8 + w * size) e

-- ---- a dm
pub length-dm : (x : List ℕ) → length (dm_item x) ≡ 8 + length x
unfolding dm_item
length-dm x = length-append (le8 (length x)) x ∙ ap (λ n. n + length x) (length-le8 (length x))

pub count-dm : (x rest : List ℕ) → length x < 2 ^ 64 → word_at (dm_item x ++ rest) 0 ≡ length x
unfolding dm_item
count-dm x rest h = ap (λ (s : List ℕ). word_at s 0) (append_assoc (le8 (length x)) x rest) ∙ word-le8 (length x) (x ++ rest) h

pub coded-dm : (x : List ℕ) → length x < 2 ^ 64 → Coded Dms (dm_item x)
unfolding item_len item_due
coded-dm x h = record { len = long; some = omega (arith, length-dm x); due = λ rest. refl }
  where
    long : (rest : List ℕ) → vec_len 1 (dm_item x ++ rest) ≡ length (dm_item x)
    long rest =
        let e = count-dm x rest h in
        let n : 8 + word_at (dm_item x ++ rest) 0 * 1 ≤ length (dm_item x ++ rest) =
        rw e (omega (arith, length-append (dm_item x) rest, length-dm x)) in
        vec-some 1 (dm_item x ++ rest) n ∙ omega (arith, e, length-dm x)

-- ---- a bucket
module _ (c : ℕ) (d : ℕ → Bool) (x : ℕ → Block) where
  abbrev pub ds : List ℕ
  ds = encode c (λ k. num (d k) ∷ [])

  abbrev pub macs : List ℕ
  macs = encode c (λ k. bytes_of (x k))

  pub length-ds : length ds ≡ 8 + c
  length-ds = length-encode 1 c (λ k. num (d k) ∷ []) (λ t l. refl) ∙ ap (λ n. 8 + n) (mul-one c)

  pub length-macs : length macs ≡ 8 + c * 16
  length-macs = length-encode 16 c (λ k. bytes_of (x k)) (λ t l. length-bytes_of (x t))

  pub length-dvalue : length (dvalue_item c d x) ≡ 16 + c * 17
  unfolding dvalue_item
  length-dvalue = omega (arith, length-append ds macs, length-ds, length-macs)

  -- what stands behind the first count, and behind the first list
  module _ (rest : List ℕ) (h : c < 2 ^ 64) where
    abbrev s : List ℕ
    s = dvalue_item c d x ++ rest

    apart : s ≡ ds ++ (macs ++ rest)
    unfolding dvalue_item
    apart = append_assoc ds macs rest

    first : word_at s 0 ≡ c
    first = ap (λ (l : List ℕ). word_at l 0) apart ∙ count-encode c (λ k. num (d k) ∷ []) (macs ++ rest) h

    behind : drop (8 + word_at s 0) s ≡ macs ++ rest
    behind = ap₂ (λ n (l : List ℕ). drop (8 + n) l) first apart ∙ drop_at ds (macs ++ rest) (8 + c) length-ds

    second : word_at s (8 + word_at s 0) ≡ c
    second =
        ap (word_at s) (sym (add-zero (8 + word_at s 0))) ∙ sym (word-drop s (8 + word_at s 0) 0) ∙ ap (λ (l : List ℕ). word_at l 0) behind
        ∙ count-encode c (λ k. bytes_of (x k)) rest h

    long-ds : vec_len 1 s ≡ 8 + c
    long-ds =
        ap (vec_len 1) apart ∙ vec-encode 1 c (λ k. num (d k) ∷ []) (macs ++ rest) h (λ t l. refl) ∙ ap (λ n. 8 + n) (mul-one c)

    long-macs : vec_len 16 (drop (8 + word_at s 0) s) ≡ 8 + c * 16
    long-macs = ap (vec_len 16) behind ∙ vec-encode 16 c (λ k. bytes_of (x k)) rest h (λ t l. length-bytes_of (x t))

    bits : bools (word_at s 0) (drop 8 s) ≡ true
    unfolding encode
    bits =
        ap₂ bools first
        (ap (drop 8) (apart ∙ append_assoc (le8 c) (cat c (λ k. num (d k) ∷ [])) (macs ++ rest))
        ∙ drop_at (le8 c) (cat c (λ k. num (d k) ∷ []) ++ (macs ++ rest)) 8 (length-le8 c))
        ∙ bools-of (cat c (λ k. num (d k) ∷ []) ++ (macs ++ rest)) c (λ k l. rw (bit_in k l) (num-le (d k)))
      where
        bit_in : (k : ℕ) → k < c → get_or (cat c (λ k. num (d k) ∷ []) ++ (macs ++ rest)) k 0 ≡ num (d k)
        bit_in k l =
            get_or-append (cat c (λ k. num (d k) ∷ [])) (macs ++ rest) 0 k
            (omega (arith, length-cat c 1 (λ k. num (d k) ∷ []) (λ t l. refl)))
            ∙ ap (λ i. get_or (cat c (λ k. num (d k) ∷ [])) i 0) (let p : k ≡ k * 1 + 0 = omega arith in p)
            ∙ sym (get_d_chunk 1 k (cat c (λ k. num (d k) ∷ [])) 0 0 (omega arith))
            ∙ ap (λ (l : List ℕ). get_or l 0 0) (chunk-cat 1 c (λ k. num (d k) ∷ []) (λ t l. refl) k l)

  dvalue-len : (rest : List ℕ) → c < 2 ^ 64 → item_len (Dvalues c) (dvalue_item c d x ++ rest) ≡ length (dvalue_item c d x)
  dvalue-len rest h =
      bucket-some c (s rest h) (omega (arith, long-ds rest h)) (bits rest h) (omega (arith, long-macs rest h))
      ∙ omega (arith, long-ds rest h, long-macs rest h, length-dvalue)

  pub coded-dvalue : c < 2 ^ 64 → Coded (Dvalues c) (dvalue_item c d x)
  coded-dvalue h = record {
    len = λ rest. dvalue-len rest h;
    some = omega (arith, length-dvalue);
    due = λ rest.
        bucket-due c (s rest h) (omega (arith, dvalue-len rest h, length-dvalue))
        ∙ and-true (eqb (word_at (s rest h) 0) c) (eqb (word_at (s rest h) (8 + word_at (s rest h) 0)) c)
        (eq-eqb (word_at (s rest h) 0) c (first rest h)) (eq-eqb (word_at (s rest h) (8 + word_at (s rest h) 0)) c (second rest h));
  }

-- ---- an option
pub coded_none : Coded Options none_item
unfolding item_len item_due none_item
coded_none = record { len = λ rest. rw (lt-ltb 0 (suc (length rest)) (omega arith)); some = omega arith; due = λ rest. refl }

pub length_some : (h : List ℕ) → length h ≡ 16 → length (some_item h) ≡ 17
unfolding some_item
length_some h e = ap suc e

pub coded-some : (h : List ℕ) → length h ≡ 16 → Coded Options (some_item h)
unfolding item_len item_due some_item
coded-some h e = record {
  len = λ rest.
      rw (lt-ltb 0 (suc (length (h ++ rest))) (omega arith), le-leb 17 (suc (length (h ++ rest))) (omega (arith, length-append h rest)))
      (ap suc (sym e));
  some = omega arith;
  due = λ rest. refl;
}

-- ---- all are bytes
pub bytes-encode : (c : ℕ) (g : ℕ → List ℕ) → ((t : ℕ) → t < c → Bytes (g t)) → Bytes (encode c g)
unfolding encode
bytes-encode c g h = bytes-append (le8 c) (cat c g) (bytes-le8 c) (bytes-cat c g h)

byte-num : (b : Bool) → num b < 256
byte-num true = omega arith
byte-num false = omega arith

pub bytes-bit_block : (b : Bool) (x : Block) → Bytes (bit_block b x)
unfolding bit_block
bytes-bit_block b x = bytes-cons (num b) (bytes_of x) (byte-num b) (bytes-bytes_of x)

pub bytes-two_bits : (a b : Bool) → Bytes (two_bits a b)
unfolding two_bits
bytes-two_bits a b = bytes-cons (num a) (num b ∷ []) (byte-num a) (bytes-cons (num b) [] (byte-num b) bytes-nil)

pub bytes-three_hashes : (a b c : List ℕ) → Bytes a → Bytes b → Bytes c → Bytes (three_hashes a b c)
unfolding three_hashes
bytes-three_hashes a b c ha hb hc = bytes-append a (b ++ c) ha (bytes-append b c hb hc)

pub bytes-two_bits_two_blocks : (d e : Bool) (x y : Block) → Bytes (two_bits_two_blocks d e x y)
unfolding two_bits_two_blocks
bytes-two_bits_two_blocks d e x y =
    bytes-cons (num d) (num e ∷ (bytes_of x ++ bytes_of y)) (byte-num d)
    (bytes-cons (num e) (bytes_of x ++ bytes_of y) (byte-num e) (bytes-append (bytes_of x) (bytes_of y) (bytes-bytes_of x) (bytes-bytes_of y)))

pub bytes-dm : (x : List ℕ) → Bytes x → Bytes (dm_item x)
unfolding dm_item
bytes-dm x h = bytes-append (le8 (length x)) x (bytes-le8 (length x)) h

pub bytes-dvalue : (c : ℕ) (d : ℕ → Bool) (x : ℕ → Block) → Bytes (dvalue_item c d x)
unfolding dvalue_item
bytes-dvalue c d x =
    bytes-append (ds c d x) (macs c d x)
    (bytes-encode c (λ k. num (d k) ∷ []) (λ k l. bytes-cons (num (d k)) [] (byte-num (d k)) bytes-nil))
    (bytes-encode c (λ k. bytes_of (x k)) (λ k l. bytes-bytes_of (x k)))

pub bytes-none : Bytes none_item
unfolding none_item
bytes-none = bytes-cons 0 [] (omega arith) bytes-nil

pub bytes-some : (h : List ℕ) → Bytes h → Bytes (some_item h)
unfolding some_item
bytes-some h k = bytes-cons 1 h (omega arith) k
