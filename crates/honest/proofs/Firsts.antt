-- A message of a bit and a Block each (rounds 6 and 15): what is read of it, and what its echo hashes. That is the list of the bits alone,
-- so it is the same for every receiver, though the Blocks differ.
use Rattle.std.specs.Prelude.{◌≡◌, Bool, true, ◌||◌, ℕ, ◌+◌, ◌-◌, ◌*◌, ◌/◌, ◌^◌, ◌<◌, length, drop, eqb}
use Rattle.std.proofs.Math.Path.{refl, sym, ap, ap₂}
use Rattle.std.proofs.Common.{◌∙◌, arith, take_at}
use mathlib.Core.List.{List, [], ◌∷◌, ◌++◌, append-nil}
use Rattle.std.proofs.Math.ListN.{get_or, take}
use Rattle.lists.specs.Pick.{pick}
use Rattle.lists.specs.Over.{tab, cat}
use Rattle.lists.specs.Rows.{tab-ext}
use Rattle.algebra.specs.Group.{num, odd, odd-num}
use Rattle.block.specs.declared.Block.{Block}
use Rattle.block.specs.Block.{block_at, le8, bytes_of}
use Rattle.block.specs.Trip.{Small, length-le8, block-get, block_at_lem}
use Rattle.blake3.specs.Tree.{hash}
use Rattle.blake3.specs.Firsts.{firsts}
use Rattle.message.specs.declared.Kind.TheVariants.{Items}
use Rattle.encode.specs.Encode.{encode, bit_block}
use Rattle.encode.specs.Coded.{length-encode, length-bit_block, coded-bit_block}
use Rattle.encode.specs.RoundTrip.{Trip, trip, even-item}
use Rattle.rounds.specs.Echo.{hash_vec}
use Rattle.honest.proofs.Toss.{cat-tab}
use Rattle.alone.specs.Cells.{head-part}

module _ (c : ℕ) (b : ℕ → Bool) (x : ℕ → Block) (small : c < 2 ^ 64) where
  abbrev msg : List ℕ
  msg = encode c (λ t. bit_block (b t) (x t))

  pub pairs-trip : Trip (Items 17 1) c (λ t. bit_block (b t) (x t)) (encode c (λ t. bit_block (b t) (x t)))
  pairs-trip = trip (Items 17 1) c (λ t. bit_block (b t) (x t)) small (λ t l. coded-bit_block (b t) (x t))

  -- item t
  item : (t : ℕ) → t < c → take 17 (drop (8 + t * 17) msg) ≡ bit_block (b t) (x t)
  item t l = even-item (Items 17 1) 17 c (λ t. bit_block (b t) (x t)) (λ t l. length-bit_block (b t) (x t)) msg pairs-trip t l

  bit_byte : (t : ℕ) → t < c → get_or msg (8 + t * 17) 0 ≡ num (b t)
  unfolding bit_block
  bit_byte t l = head-part 17 (8 + t * 17) msg (bit_block (b t) (x t)) (omega arith) (item t l)

  pub bit-read : (t : ℕ) → t < c → odd (get_or (encode c (λ t. bit_block (b t) (x t))) (8 + t * 17) 0) ≡ b t
  bit-read t l = ap odd (bit_byte t l) ∙ odd-num (b t)

  pub block_read : (t : ℕ) → t < c → Small (x t) → block_at (encode c (λ t. bit_block (b t) (x t))) (8 + t * 17 + 1) ≡ x t
  unfolding bit_block
  block_read t l s =
      sym (block-get msg (8 + t * 17) 17 1 (omega arith))
      ∙ ap (λ (s : List ℕ). block_at s 1) (item t l ∙ ap (λ (y : List ℕ). num (b t) ∷ y) (sym (append-nil (bytes_of (x t)))))
      ∙ block_at_lem (num (b t) ∷ []) (x t) [] 1 refl s

  -- the first elements of the list are the list of the bits
  pub firsts-bits : firsts 17 (encode c (λ t. bit_block (b t) (x t))) ≡ encode c (λ t. num (b t) ∷ [])
  unfolding firsts encode
  firsts-bits =
      let e : (length msg - 8) / 17 ≡ c =
      omega (arith, length-encode 17 c (λ t. bit_block (b t) (x t)) (λ t l. length-bit_block (b t) (x t))) in
      ap₂ ◌++◌ (take_at (le8 c) (cat c (λ t. bit_block (b t) (x t))) 8 (length-le8 c))
      (ap (λ k. tab k (λ t. get_or msg (8 + t * 17) 0)) e ∙ tab-ext c (λ t. get_or msg (8 + t * 17) 0) (λ t. num (b t)) bit_byte
      ∙ sym (cat-tab c (λ t. num (b t))))

  -- so the bits alone are hashed
  pub hash-bits : (k : ℕ) → (eqb k 6 || eqb k 15) ≡ true
      → hash_vec k (encode c (λ t. bit_block (b t) (x t))) ≡ take 16 (hash (encode c (λ t. num (b t) ∷ [])))
  unfolding hash_vec
  hash-bits k f =
      ap (λ (q : Bool). take 16 (hash (pick q (firsts 17 msg) msg))) f ∙ ap (λ (s : List ℕ). take 16 (hash s)) firsts-bits
