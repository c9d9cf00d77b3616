-- The round trip of every kind of message, each by the one law of RoundTrip: what is written is accepted, used to its last byte, and its
-- items are found. Fields.antt reads their fields.
use Rattle.std.specs.Prelude.{◌≡◌, Bool, true, false, List, [], ◌∷◌, ℕ, ◌^◌, ◌<◌, length}
use Rattle.lists.specs.Pick.{pick}
use Rattle.block.specs.declared.Block.{Block}
use Rattle.block.specs.Block.{bytes_of}
use Rattle.message.specs.declared.Kind.TheVariants.{Items, Dms, Dvalues, Options}
use Rattle.encode.specs.Encode.{encode, bit_block, two_bits, three_hashes, two_bits_two_blocks, dm_item, dvalue_item, none_item, some_item}
use Rattle.encode.specs.Coded.{Coded, coded-byte, coded-hash, coded-bit_block, coded-three_hashes, coded-block, coded-two_bits}
use Rattle.encode.specs.Coded.{coded-two_bits_two_blocks, coded-dm, coded-dvalue, coded_none, coded-some}
use Rattle.encode.specs.RoundTrip.{Trip, trip}

module _ (c : ℕ) (small : c < 2 ^ 64) where
  -- `RNG ver`: bytes
  pub trip-bytes : (b : ℕ → ℕ) → Trip (Items 1 0) c (λ t. b t ∷ []) (encode c (λ t. b t ∷ []))
  trip-bytes b = trip (Items 1 0) c (λ t. b t ∷ []) small (λ t l. coded-byte (b t))

  -- `RNG comm`, `flaand comm`: commitments
  pub trip-hashes : (h : ℕ → List ℕ) → ((t : ℕ) → t < c → length (h t) ≡ 32) → Trip (Items 32 0) c h (encode c h)
  trip-hashes h long = trip (Items 32 0) c h small (λ t l. coded-hash (h t) (long t l))

  -- `fabitn`: (bit, MAC), and `flaand`: (e, u)
  pub trip-bit_blocks : (b : ℕ → Bool) (x : ℕ → Block)
      → Trip (Items 17 1) c (λ t. bit_block (b t) (x t)) (encode c (λ t. bit_block (b t) (x t)))
  trip-bit_blocks b x = trip (Items 17 1) c (λ t. bit_block (b t) (x t)) small (λ t l. coded-bit_block (b t) (x t))

  -- `fashare comm`: (c0, c1, cm)
  pub trip-three_hashes : (h0 h1 h2 : ℕ → List ℕ) → ((t : ℕ) → t < c → (length (h0 t) ≡ 32) × ((length (h1 t) ≡ 32) × (length (h2 t) ≡ 32)))
      → Trip (Items 96 0) c (λ t. three_hashes (h0 t) (h1 t) (h2 t)) (encode c (λ t. three_hashes (h0 t) (h1 t) (h2 t)))
  trip-three_hashes h0 h1 h2 long =
      trip (Items 96 0) c (λ t. three_hashes (h0 t) (h1 t) (h2 t)) small
      (λ t l. coded-three_hashes (h0 t) (h1 t) (h2 t) (long t l).0 (long t l).1.0 (long t l).1.1)

  -- `fashare ver`: dms
  pub trip-dms : (x : ℕ → List ℕ) → ((t : ℕ) → t < c → length (x t) < 2 ^ 64)
      → Trip Dms c (λ t. dm_item (x t)) (encode c (λ t. dm_item (x t)))
  trip-dms x short = trip Dms c (λ t. dm_item (x t)) small (λ t l. coded-dm (x t) (short t l))

  -- `fashare di_bi`, `flaand hash`: Blocks
  pub trip-blocks : (x : ℕ → Block) → Trip (Items 16 0) c (λ t. bytes_of (x t)) (encode c (λ t. bytes_of (x t)))
  trip-blocks x = trip (Items 16 0) c (λ t. bytes_of (x t)) small (λ t l. coded-block (x t))

  -- `haand`: (h0, h1)
  pub trip-two_bits : (a b : ℕ → Bool) → Trip (Items 2 2) c (λ t. two_bits (a t) (b t)) (encode c (λ t. two_bits (a t) (b t)))
  trip-two_bits a b = trip (Items 2 2) c (λ t. two_bits (a t) (b t)) small (λ t l. coded-two_bits (a t) (b t))

  -- `dvalue`: buckets
  pub trip-dvalues : (due : ℕ) → due < 2 ^ 64 → (d : ℕ → ℕ → Bool) (x : ℕ → ℕ → Block)
      → Trip (Dvalues due) c (λ t. dvalue_item due (d t) (x t)) (encode c (λ t. dvalue_item due (d t) (x t)))
  trip-dvalues due short d x = trip (Dvalues due) c (λ t. dvalue_item due (d t) (x t)) small (λ t l. coded-dvalue due (d t) (x t) short)

  -- `faand`: (d, e, MAC of d, MAC of e)
  pub trip-two_bits_two_blocks : (d e : ℕ → Bool) (x y : ℕ → Block)
      → Trip (Items 34 2) c (λ t. two_bits_two_blocks (d t) (e t) (x t) (y t)) (encode c (λ t. two_bits_two_blocks (d t) (e t) (x t) (y t)))
  trip-two_bits_two_blocks d e x y =
      trip (Items 34 2) c (λ t. two_bits_two_blocks (d t) (e t) (x t) (y t)) small (λ t l. coded-two_bits_two_blocks (d t) (e t) (x t) (y t))

  -- echoes: options
  pub trip-options : (present : ℕ → Bool) (h : ℕ → List ℕ) → ((t : ℕ) → t < c → length (h t) ≡ 16)
      → Trip Options c (λ t. pick (present t) (some_item (h t)) none_item) (encode c (λ t. pick (present t) (some_item (h t)) none_item))
  trip-options present h long =
      trip Options c (λ t. pick (present t) (some_item (h t)) none_item) small (λ t l. by (h t) (long t l) (present t))
    where
      by : (x : List ℕ) → length x ≡ 16 → (b : Bool) → Coded Options (pick b (some_item x) none_item)
      by x n true = coded-some x n
      by x n false = coded_none
