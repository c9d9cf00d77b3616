-- The fields of each kind of item, read back from a message that holds the list. A field's place is given as p, with its equation.
use Rattle.std.specs.Prelude.{◌≡◌, refl, Bool, ℕ, zero, suc, ◌+◌, ◌-◌, ◌*◌, ◌^◌, ◌<◌, ◌≤◌, drop}
use Rattle.std.proofs.Math.Path.{sym, ap}
use Rattle.std.proofs.Common.{◌∙◌, drop_at, get_or-take, get_or-drop, take-take, drop-drop}
use mathlib.Core.List.{List, [], ◌∷◌, ◌++◌, append_assoc, append-nil}
use native.Mathlib.Omega.{arith}
use Rattle.std.proofs.Math.ListN.{length, get_or, take, length-append}
use Rattle.std.proofs.Math.Seq.{take_at, take_all, take-length}
use Rattle.lists.specs.Sect.{drop-take-add}
use Rattle.lists.specs.Over.{tab, cat}
use Rattle.lists.specs.Tab.{tab-get_or}
use Rattle.algebra.specs.Group.{num, odd, odd-num}
use Rattle.block.specs.declared.Block.{Block}
use Rattle.block.specs.Block.{word_at, block_at, le8, bytes_of}
use Rattle.block.specs.Trip.{length-le8, length-bytes_of, word-ext, block-ext, block_at_lem, block_here, Small}
use Rattle.message.specs.declared.Kind.TheVariants.{Items, Dms, Dvalues, Options}
use Rattle.message.specs.Format.{item_at}
use Rattle.encode.specs.Encode.{encode, bit_block, two_bits, three_hashes, two_bits_two_blocks, dm_item, dvalue_item, none_item, some_item}
use Rattle.encode.specs.Coded.{length-bit_block, length-two_bits, length-three_hashes, length-two_bits_two_blocks, length-dm, count-dm, ds}
use Rattle.encode.specs.Coded.{macs, length-ds, length-dvalue, length_some}
use Rattle.encode.specs.RoundTrip.{Trip, encode-item, even-item}

pub cat-tab : (n : ℕ) (f : ℕ → ℕ) → cat n (λ t. f t ∷ []) ≡ tab n f
unfolding cat tab
cat-tab zero f = refl
cat-tab (suc n) f = ap (λ (x : List ℕ). x ++ (f n ∷ [])) (cat-tab n f)

-- ---- the n elements from a on are x
module _ (m x : List ℕ) (n a : ℕ) (e : take n (drop a m) ≡ x) where
  pub byte-in : (k p : ℕ) → p ≡ a + k → k < n → get_or m p 0 ≡ get_or x k 0
  byte-in k p q l =
      ap (λ i. get_or m i 0) q ∙ sym (get_or-drop a m k 0) ∙ sym (get_or-take n (drop a m) k 0 l) ∙ ap (λ (s : List ℕ). get_or s k 0) e

  pub block_in : (k p : ℕ) → p ≡ a + k → k + 16 ≤ n → block_at m p ≡ block_at x k
  block_in k p q l = block-ext m x p k (λ j i. byte-in (k + j) (p + j) (omega arith) (omega arith))

  pub word_in : (k p : ℕ) → p ≡ a + k → k + 8 ≤ n → word_at m p ≡ word_at x k
  word_in k p q l = word-ext m x p k (λ j i. byte-in (k + j) (p + j) (omega arith) (omega arith))

  pub part_in : (k j p : ℕ) → p ≡ a + k → k + j ≤ n → take j (drop p m) ≡ take j (drop k x)
  part_in k j p q l =
      ap (λ i. take j (drop i m)) q ∙ ap (take j) (sym (drop-drop k a m)) ∙ sym (drop-take-add k j (drop a m))
      ∙ ap (drop k) (sym (take-take (k + j) n (drop a m) l)) ∙ ap (λ (s : List ℕ). drop k (take (k + j) s)) e ∙ drop-take-add k j x

-- ---- the fields of one item
pub bit_block-block : (b : Bool) (x : Block) → Small x → block_at (bit_block b x) 1 ≡ x
unfolding bit_block
bit_block-block b x k =
    ap (λ (s : List ℕ). block_at (num b ∷ s) 1) (sym (append-nil (bytes_of x))) ∙ block_at_lem (num b ∷ []) x [] 1 refl k

pub blocks-first : (d e : Bool) (x y : Block) → Small x → block_at (two_bits_two_blocks d e x y) 2 ≡ x
unfolding two_bits_two_blocks
blocks-first d e x y k = block_at_lem (num d ∷ num e ∷ []) x (bytes_of y) 2 refl k

pub blocks-second : (d e : Bool) (x y : Block) → Small y → block_at (two_bits_two_blocks d e x y) 18 ≡ y
unfolding two_bits_two_blocks
blocks-second d e x y k =
    ap (λ (s : List ℕ). block_at (num d ∷ num e ∷ (bytes_of x ++ s)) 18) (sym (append-nil (bytes_of y)))
    ∙ block_at_lem (num d ∷ num e ∷ bytes_of x) y [] 18 (ap (λ (n : ℕ). suc (suc n)) (length-bytes_of x)) k

-- ---- (bit, MAC) and (e, u)
module _ (c : ℕ) (b : ℕ → Bool) (x : ℕ → Block) (m : List ℕ) (w : Trip (Items 17 1) c (λ t. bit_block (b t) (x t)) m) (t : ℕ) (l : t < c) where
  item17 : take 17 (drop (8 + t * 17) m) ≡ bit_block (b t) (x t)
  item17 = even-item (Items 17 1) 17 c (λ t. bit_block (b t) (x t)) (λ j k. length-bit_block (b j) (x j)) m w t l

  pub bit_block-bit : (p : ℕ) → p ≡ 8 + t * 17 → odd (get_or m p 0) ≡ b t
  unfolding bit_block
  bit_block-bit p q = ap odd (byte-in m _ 17 (8 + t * 17) item17 0 p (omega arith) (omega arith)) ∙ odd-num (b t)

  pub bit_block-mac : Small (x t) → (p : ℕ) → p ≡ 8 + t * 17 + 1 → block_at m p ≡ x t
  bit_block-mac k p q = block_in m _ 17 (8 + t * 17) item17 1 p q (omega arith) ∙ bit_block-block (b t) (x t) k

-- ---- (h0, h1)
module _ (c : ℕ) (a b : ℕ → Bool) (m : List ℕ) (w : Trip (Items 2 2) c (λ t. two_bits (a t) (b t)) m) (t : ℕ) (l : t < c) where
  item2 : take 2 (drop (8 + t * 2) m) ≡ two_bits (a t) (b t)
  item2 = even-item (Items 2 2) 2 c (λ t. two_bits (a t) (b t)) (λ j k. length-two_bits (a j) (b j)) m w t l

  pub two_bits-first : (p : ℕ) → p ≡ 8 + t * 2 → odd (get_or m p 0) ≡ a t
  unfolding two_bits
  two_bits-first p q = ap odd (byte-in m _ 2 (8 + t * 2) item2 0 p (omega arith) (omega arith)) ∙ odd-num (a t)

  pub two_bits-second : (p : ℕ) → p ≡ 8 + t * 2 + 1 → odd (get_or m p 0) ≡ b t
  unfolding two_bits
  two_bits-second p q = ap odd (byte-in m _ 2 (8 + t * 2) item2 1 p q (omega arith)) ∙ odd-num (b t)

-- ---- (d, e, MAC of d, MAC of e)
module _ (c : ℕ) (d e : ℕ → Bool) (x y : ℕ → Block) (m : List ℕ) (w : Trip (Items 34 2) c (λ t. two_bits_two_blocks (d t) (e t) (x t) (y t)) m) (t : ℕ) (l : t < c) where
  item34 : take 34 (drop (8 + t * 34) m) ≡ two_bits_two_blocks (d t) (e t) (x t) (y t)
  item34 =
      even-item (Items 34 2) 34 c (λ t. two_bits_two_blocks (d t) (e t) (x t) (y t))
      (λ j k. length-two_bits_two_blocks (d j) (e j) (x j) (y j)) m w t l

  pub blocks-d : (p : ℕ) → p ≡ 8 + t * 34 → odd (get_or m p 0) ≡ d t
  unfolding two_bits_two_blocks
  blocks-d p q = ap odd (byte-in m _ 34 (8 + t * 34) item34 0 p (omega arith) (omega arith)) ∙ odd-num (d t)

  pub blocks-e : (p : ℕ) → p ≡ 8 + t * 34 + 1 → odd (get_or m p 0) ≡ e t
  unfolding two_bits_two_blocks
  blocks-e p q = ap odd (byte-in m _ 34 (8 + t * 34) item34 1 p q (omega arith)) ∙ odd-num (e t)

  pub blocks-d-mac : Small (x t) → (p : ℕ) → p ≡ 8 + t * 34 + 2 → block_at m p ≡ x t
  blocks-d-mac k p q = block_in m _ 34 (8 + t * 34) item34 2 p q (omega arith) ∙ blocks-first (d t) (e t) (x t) (y t) k

  pub blocks-e-mac : Small (y t) → (p : ℕ) → p ≡ 8 + t * 34 + 18 → block_at m p ≡ y t
  blocks-e-mac k p q = block_in m _ 34 (8 + t * 34) item34 18 p q (omega arith) ∙ blocks-second (d t) (e t) (x t) (y t) k

-- ---- Blocks
module _ (c : ℕ) (x : ℕ → Block) (m : List ℕ) (w : Trip (Items 16 0) c (λ t. bytes_of (x t)) m) (t : ℕ) (l : t < c) where
  pub block_back : Small (x t) → (p : ℕ) → p ≡ 8 + t * 16 → block_at m p ≡ x t
  block_back k p q =
      ap (block_at m) q
      ∙ block_here m (8 + t * 16) (x t) (even-item (Items 16 0) 16 c (λ t. bytes_of (x t)) (λ j i. length-bytes_of (x j)) m w t l) k

-- ---- bytes
-- a list of bytes is its count and the bytes
pub encode-bytes : (s : List ℕ) → encode (length s) (λ t. get_or s t 0 ∷ []) ≡ le8 (length s) ++ s
unfolding encode
encode-bytes s = ap (λ (x : List ℕ). le8 (length s) ++ x) (cat-tab (length s) (λ t. get_or s t 0) ∙ tab-get_or s 0)

module _ (c : ℕ) (b : ℕ → ℕ) (m : List ℕ) (w : Trip (Items 1 0) c (λ t. b t ∷ []) m) (t : ℕ) (l : t < c) where
  pub byte-back : (p : ℕ) → p ≡ 8 + t → get_or m p 0 ≡ b t
  byte-back p q =
      byte-in m _ 1 (8 + t * 1) (even-item (Items 1 0) 1 c (λ t. b t ∷ []) (λ j i. refl) m w t l) 0 p (omega arith) (omega arith)

-- ---- hashes, and three of them
module _ (c : ℕ) (h : ℕ → List ℕ) (long : (t : ℕ) → t < c → length (h t) ≡ 32) (m : List ℕ) (w : Trip (Items 32 0) c h m) (t : ℕ) (l : t < c) where
  pub hash-back : (p : ℕ) → p ≡ 8 + t * 32 → take 32 (drop p m) ≡ h t
  hash-back p q = ap (λ i. take 32 (drop i m)) q ∙ even-item (Items 32 0) 32 c h long m w t l

module _ (c : ℕ) (h0 h1 h2 : ℕ → List ℕ) (long : (t : ℕ) → t < c → (length (h0 t) ≡ 32) × ((length (h1 t) ≡ 32) × (length (h2 t) ≡ 32)))
    (m : List ℕ) (w : Trip (Items 96 0) c (λ t. three_hashes (h0 t) (h1 t) (h2 t)) m) (t : ℕ) (l : t < c) where
  item96 : take 96 (drop (8 + t * 96) m) ≡ three_hashes (h0 t) (h1 t) (h2 t)
  item96 =
      even-item (Items 96 0) 96 c (λ t. three_hashes (h0 t) (h1 t) (h2 t))
      (λ j k. length-three_hashes (h0 j) (h1 j) (h2 j) (long j k).0 (long j k).1.0 (long j k).1.1) m w t l

  pub hashes-first : (p : ℕ) → p ≡ 8 + t * 96 → take 32 (drop p m) ≡ h0 t
  unfolding three_hashes
  hashes-first p q =
      part_in m _ 96 (8 + t * 96) item96 0 32 p (omega arith) (omega arith) ∙ take_at (h0 t) (h1 t ++ h2 t) 32 (long t l).0

  pub hashes-second : (p : ℕ) → p ≡ 8 + t * 96 + 32 → take 32 (drop p m) ≡ h1 t
  unfolding three_hashes
  hashes-second p q =
      part_in m _ 96 (8 + t * 96) item96 32 32 p q (omega arith)
      ∙ ap (take 32) (drop_at (h0 t) (h1 t ++ h2 t) 32 (long t l).0) ∙ take_at (h1 t) (h2 t) 32 (long t l).1.0

  pub hashes-third : (p : ℕ) → p ≡ 8 + t * 96 + 64 → take 32 (drop p m) ≡ h2 t
  unfolding three_hashes
  hashes-third p q =
      part_in m _ 96 (8 + t * 96) item96 64 32 p q (omega arith)
      ∙ ap (λ (s : List ℕ). take 32 (drop 64 s)) (sym (append_assoc (h0 t) (h1 t) (h2 t)))
      ∙ ap (take 32) (drop_at (h0 t ++ h1 t) (h2 t) 64 (omega (arith, length-append (h0 t) (h1 t), (long t l).0, (long t l).1.0)))
      ∙ take_all 32 (h2 t) (omega (arith, (long t l).1.1))

-- ---- a dm: its length and its bytes
module _ (c : ℕ) (x : ℕ → List ℕ) (m : List ℕ) (w : Trip Dms c (λ t. dm_item (x t)) m) (t : ℕ) (l : t < c) where
  item_dm : take (8 + length (x t)) (drop (item_at Dms m t) m) ≡ dm_item (x t)
  item_dm = ap (λ n. take n (drop (item_at Dms m t) m)) (sym (length-dm (x t))) ∙ w.item t l

  pub dm-length : length (x t) < 2 ^ 64 → word_at m (item_at Dms m t) ≡ length (x t)
  dm-length h =
      word_in m _ (8 + length (x t)) (item_at Dms m t) item_dm 0 (item_at Dms m t) (omega arith) (omega arith)
      ∙ ap (λ (s : List ℕ). word_at s 0) (sym (append-nil (dm_item (x t)))) ∙ count-dm (x t) [] h

  pub dm-bytes : (p : ℕ) → p ≡ item_at Dms m t + 8 → take (length (x t)) (drop p m) ≡ x t
  unfolding dm_item
  dm-bytes p q =
      part_in m _ (8 + length (x t)) (item_at Dms m t) item_dm 8 (length (x t)) p q (omega arith)
      ∙ ap (take (length (x t))) (drop_at (le8 (length (x t))) (x t) 8 (length-le8 (length (x t)))) ∙ take-length (x t)

-- ---- a bucket: d value k and its MAC
module _ (due : ℕ) (d : ℕ → Bool) (x : ℕ → Block) (k : ℕ) (l : k < due) where
  pub dvalue-bit : get_or (dvalue_item due d x) (8 + k) 0 ≡ num (d k)
  unfolding dvalue_item
  dvalue-bit =
      byte-in (dvalue_item due d x) _ 1 (8 + k * 1) (encode-item due (λ k. num (d k) ∷ []) (macs due d x) 1 (λ t j. refl) k l) 0 (8 + k)
      (omega arith) (omega arith)

  pub dvalue-block : Small (x k) → block_at (dvalue_item due d x) (16 + due + k * 16) ≡ x k
  unfolding dvalue_item
  dvalue-block h =
      block_here (dvalue_item due d x) (16 + due + k * 16) (x k)
      (ap (λ i. take 16 (drop i (dvalue_item due d x))) (let p : 16 + due + k * 16 ≡ (8 + due) + (8 + k * 16) = omega arith in p)
      ∙ ap (take 16)
      (sym (drop-drop (8 + k * 16) (8 + due) (dvalue_item due d x))
      ∙ ap (drop (8 + k * 16)) (drop_at (ds due d x) (macs due d x) (8 + due) (length-ds due d x) ∙ sym (append-nil (macs due d x))))
      ∙ encode-item due (λ k. bytes_of (x k)) [] 16 (λ t j. length-bytes_of (x t)) k l)
      h

module _ (c due : ℕ) (d : ℕ → ℕ → Bool) (x : ℕ → ℕ → Block) (m : List ℕ) (w : Trip (Dvalues due) c (λ t. dvalue_item due (d t) (x t)) m)
    (t : ℕ) (l : t < c) (k : ℕ) (j : k < due) where
  abbrev start : ℕ
  start = 8 + t * (16 + due * 17)

  item_dvalue : take (16 + due * 17) (drop start m) ≡ dvalue_item due (d t) (x t)
  item_dvalue =
      even-item (Dvalues due) (16 + due * 17) c (λ t. dvalue_item due (d t) (x t)) (λ j i. length-dvalue due (d j) (x j)) m w t l

  pub dvalue-d : (p : ℕ) → p ≡ 8 + t * (16 + due * 17) + 8 + k → odd (get_or m p 0) ≡ d t k
  dvalue-d p q =
      ap odd (byte-in m _ (16 + due * 17) start item_dvalue (8 + k) p (omega arith) (omega arith) ∙ dvalue-bit due (d t) (x t) k j)
      ∙ odd-num (d t k)

  pub dvalue-mac : Small (x t k) → (p : ℕ) → p ≡ 8 + t * (16 + due * 17) + 16 + due + k * 16 → block_at m p ≡ x t k
  dvalue-mac h p q =
      block_in m _ (16 + due * 17) start item_dvalue (16 + due + k * 16) p (omega arith) (omega arith) ∙ dvalue-block due (d t) (x t) k j h

-- ---- an option
module _ (c : ℕ) (g : ℕ → List ℕ) (m : List ℕ) (w : Trip Options c g m) (t : ℕ) (l : t < c) where
  pub option-absent : g t ≡ none_item → get_or m (item_at Options m t) 0 ≡ 0
  unfolding none_item
  option-absent e =
      byte-in m (g t) (length (g t)) (item_at Options m t) (w.item t l) 0 (item_at Options m t) (omega arith) (omega (arith, ap length e))
      ∙ ap (λ (s : List ℕ). get_or s 0 0) e

  module _ (h : List ℕ) (n : length h ≡ 16) (e : g t ≡ some_item h) where
    item_some : take 17 (drop (item_at Options m t) m) ≡ some_item h
    item_some = ap (λ k. take k (drop (item_at Options m t) m)) (sym (ap length e ∙ length_some h n)) ∙ w.item t l ∙ e

    pub option-present : get_or m (item_at Options m t) 0 ≡ 1
    unfolding some_item
    option-present = byte-in m (some_item h) 17 (item_at Options m t) item_some 0 (item_at Options m t) (omega arith) (omega arith)

    pub option-hash : (p : ℕ) → p ≡ item_at Options m t + 1 → take 16 (drop p m) ≡ h
    unfolding some_item
    option-hash p q =
        part_in m (some_item h) 17 (item_at Options m t) item_some 1 16 p q (omega arith) ∙ take_all 16 h (omega arith)
