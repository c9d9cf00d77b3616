-- XOR of words and Blocks is XOR of their bytes.
use Rattle.std.specs.Prelude.{◌≡◌, List, [], ◌∷◌, ◌++◌, ℕ, ◌+◌, ◌/◌, ◌%◌, ◌^◌, ◌≤◌, length, get_or}
use Rattle.std.proofs.Common.{sym, ap, ap₂, ◌∙◌, arith, length-append, get_or-append-add, take_all}
use Rattle.std.proofs.Math.ListN.{get_or-append}
use Rattle.std.specs.Int.Bits.{bit_xor}
use Rattle.std.proofs.lemmas.Nat.{xor_shr, xor_mod, xor_lt}
use Rattle.lists.specs.Over.{tab}
use Rattle.lists.specs.Tab.{tab-add}
use Rattle.lists.specs.Rows.{tab-ext}
use Rattle.lists.specs.Bytes.{Bytes}
use Rattle.block.specs.Block.{Block, word_at, block_at, le8, bytes_of, xor_of, xor_at, xor_inplace}
use Rattle.block.specs.Group.{blocks}
use Rattle.block.specs.Xor.{xor-part}
use Rattle.block.specs.Trip.{length-le8, le8-word, bytes_of-at, word-here, block_here, small_word, small_at, small-xor}

-- byte k of the XOR of two numbers
byte-xor : (u v k : ℕ) → bit_xor u v / 2 ^ k % 2 ^ 8 ≡ bit_xor (u / 2 ^ k % 2 ^ 8) (v / 2 ^ k % 2 ^ 8)
byte-xor u v k = ap (λ x. x % 2 ^ 8) (xor_shr u v k) ∙ xor_mod (u / 2 ^ k) (v / 2 ^ k) 8

pub le8-xor : (u v : ℕ) → le8 (bit_xor u v) ≡ xor_inplace (le8 u) (le8 v)
unfolding le8 xor_inplace tab
le8-xor u v =
    λ i. xor_mod u v 8 i ∷ byte-xor u v 8 i ∷ byte-xor u v 16 i ∷ byte-xor u v 24 i ∷ byte-xor u v 32 i ∷ byte-xor u v 40 i ∷ byte-xor u v 48 i ∷ byte-xor u v 56 i ∷ []

-- strings put together from parts of equal length
pub append-xor : (a b a' b' : List ℕ) → length a ≡ length b → xor_inplace (a ++ a') (b ++ b') ≡ xor_inplace a b ++ xor_inplace a' b'
unfolding xor_inplace
append-xor a b a' b' h =
    ap (λ n. tab n f) (length-append a a') ∙ tab-add (length a) (length a') f
    ∙ ap₂ ◌++◌
    (tab-ext (length a) f (xor_at a b) (λ i l. ap₂ bit_xor (get_or-append a a' 0 i l) (get_or-append b b' 0 i (omega arith))))
    (tab-ext (length a') (λ i. f (length a + i)) (xor_at a' b')
    (λ i l. ap₂ bit_xor (get_or-append-add a a' i 0) (ap (λ n. get_or (b ++ b') (n + i) 0) h ∙ get_or-append-add b b' i 0)))
  where
    f : ℕ → ℕ
    f = xor_at (a ++ a') (b ++ b')

pub bytes_of-xor : (a b : Block) → bytes_of (blocks.op a b) ≡ xor_inplace (bytes_of a) (bytes_of b)
unfolding bytes_of blocks xor_of
bytes_of-xor a b =
    ap₂ ◌++◌ (le8-xor a.0 b.0) (le8-xor a.1 b.1)
    ∙ sym (append-xor (le8 a.0) (le8 b.0) (le8 a.1) (le8 b.1) (length-le8 a.0 ∙ sym (length-le8 b.0)))

-- what is read of an XOR of strings
module _ (a b : List ℕ) (ha : Bytes a) (hb : Bytes b) (at : ℕ) where
  pub word-xor : at + 8 ≤ length a → at + 8 ≤ length b → word_at (xor_inplace a b) at ≡ bit_xor (word_at a at) (word_at b at)
  word-xor h k =
      word-here (xor_inplace a b) at (bit_xor (word_at a at) (word_at b at))
      (xor-part 8 at a b ∙ ap₂ xor_inplace (sym (le8-word a ha at h)) (sym (le8-word b hb at k)) ∙ sym (le8-xor (word_at a at) (word_at b at)))
      (xor_lt 64 (word_at a at) (word_at b at) (small_word a ha at) (small_word b hb at))

  pub block-xor : at + 16 ≤ length a → at + 16 ≤ length b → block_at (xor_inplace a b) at ≡ blocks.op (block_at a at) (block_at b at)
  block-xor h k =
      block_here (xor_inplace a b) at (blocks.op (block_at a at) (block_at b at))
      (xor-part 16 at a b ∙ ap₂ xor_inplace (sym (bytes_of-at a ha at h)) (sym (bytes_of-at b hb at k)) ∙ sym (bytes_of-xor (block_at a at) (block_at b at)))
      (small-xor (block_at a at) (block_at b at) (small_at a ha at) (small_at b hb at))

-- eight bytes added as one word
pub le8-xor-words : (a b : List ℕ) → Bytes a → Bytes b → length a ≡ 8 → length b ≡ 8
    → le8 (bit_xor (word_at a 0) (word_at b 0)) ≡ xor_inplace a b
le8-xor-words a b ha hb h k =
    le8-xor (word_at a 0) (word_at b 0)
    ∙ ap₂ xor_inplace (le8-word a ha 0 (omega arith) ∙ take_all 8 a (omega arith))
    (le8-word b hb 0 (omega arith) ∙ take_all 8 b (omega arith))
