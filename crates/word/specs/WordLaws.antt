-- Words: two shifts joined are a rotation; rotations and bytes are those of std's methods; a word is read back from its bytes, and one of
-- many is read or overwritten.
use Rattle.std.specs.Prelude.{◌≡◌, ℕ, ◌+◌, ◌-◌, ◌*◌, ◌/◌, ◌%◌, ◌^◌, ◌<◌, ◌≤◌, Bool, true, false, ◌≢◌, List, [], ◌∷◌, length, bit_or, nat_lt, slice_index, slice_index_or, slice_set, refl}
use Rattle.std.proofs.Math.Path.{sym, ap}
use Rattle.std.proofs.Common.{◌∙◌, subst, add-zero, get_or-set_same, get_or-set_other, take_all, shr_lt, ltb-true, ltb-false}
use Rattle.std.proofs.Math.Nat.{mul-mod_left}
use native.Mathlib.Omega.{arith}
use Rattle.std.specs.Int.{w32, rotate_left, rotate_right, from_le_bytes, to_le_bytes}
use Rattle.std.specs.Int.Bits.{or_shifted_r}
use Rattle.std.proofs.lemmas.Nat.{mod-pow-add, shl-shr, or_comm, from_le_bytes-to_le_bytes_4}
use borrow.Rule.Slice.PartMut.{put_mid}
use Rattle.lists.specs.Pick.{by-eq}
use Rattle.lists.specs.Over.{length-cat}
use Rattle.lists.specs.Rows.{chunk, chunk-cat, cat-chunk, cat-ext, get_d_chunk}
use Rattle.lists.specs.Sect.{length-put, get-put-same, get-put-before, get-put-after}
use Rattle.word.specs.Word.{rotr, rotl, word, word_at, le4, le4s}

-- ---- a shift to the right joined with the shift to the left by what is left of the word
-- a word's low k bits, at the top
top : (x j k : ℕ) → x * 2 ^ j % 2 ^ (k + j) ≡ x % 2 ^ k * 2 ^ j
top x j k =
    mod-pow-add (x * 2 ^ j) k j
    ∙ ap (λ (y : ℕ). (y % 2 ^ k) * 2 ^ j + x * 2 ^ j % 2 ^ j) (shl-shr x j)
    ∙ ap (λ (y : ℕ). x % 2 ^ k * 2 ^ j + y) (mul-mod_left x (2 ^ j))
    ∙ add-zero (x % 2 ^ k * 2 ^ j)

pub turned : (x j k : ℕ) → x < 2 ^ (j + k) → bit_or (x / 2 ^ k) (x * 2 ^ j % 2 ^ (k + j)) ≡ x % 2 ^ k * 2 ^ j + x / 2 ^ k
turned x j k h = ap (bit_or (x / 2 ^ k)) (top x j k) ∙ or_shifted_r (x % 2 ^ k) j (x / 2 ^ k) (shr_lt j k h)

-- ---- the rotations are those of std's methods
turned-word : (x j k : ℕ) → k + j ≡ 32 → x < 2 ^ 32 → bit_or (x / 2 ^ k) (x * 2 ^ j % 2 ^ 32) ≡ x % 2 ^ k * 2 ^ j + x / 2 ^ k
turned-word x j k e h =
    ap (λ (n : ℕ). bit_or (x / 2 ^ k) (x * 2 ^ j % 2 ^ n)) (sym e)
    ∙ turned x j k (subst (λ (n : ℕ). x < 2 ^ n) (let f : 32 ≡ j + k = omega arith in f) h)

pub rotated_right : (k x : ℕ) → 1 ≤ k → k < 32 → x < 2 ^ 32 → rotate_right w32 x k ≡ rotr k x
unfolding rotr
rotated_right k x l m h =
    let a : k % 32 ≡ k = omega arith in
    let b : (32 - k) % 32 ≡ 32 - k = omega arith in
    rw (a, b) (turned-word x (32 - k) k (omega arith) h)

pub rotated_left : (k x : ℕ) → 1 ≤ k → k < 32 → x < 2 ^ 32 → rotate_left w32 x k ≡ rotl k x
unfolding rotl
rotated_left k x l m h =
    let a : k % 32 ≡ k = omega arith in
    let b : (32 - k) % 32 ≡ 32 - k = omega arith in
    rw (a, b) (or_comm (x * 2 ^ k % 2 ^ 32) (x / 2 ^ (32 - k)) ∙ turned-word x k (32 - k) (omega arith) h)

-- ---- a word and its bytes are those of std's methods
pub std_word : (a b c d : ℕ) → from_le_bytes w32 (a ∷ b ∷ c ∷ d ∷ []) ≡ word a b c d
unfolding word
std_word a b c d = refl

pub std_le4 : (v : ℕ) → to_le_bytes w32 v ≡ le4 v
unfolding le4
std_le4 v = refl

-- ---- the bytes of a word
pub length-le4 : (v : ℕ) → length (le4 v) ≡ 4
unfolding le4
length-le4 v = refl

-- they are the word again
pub word_back : (v : ℕ) → v < 2 ^ 32 → word (v % 2 ^ 8) (v / 2 ^ 8 % 2 ^ 8) (v / 2 ^ 16 % 2 ^ 8) (v / 2 ^ 24 % 2 ^ 8) ≡ v
unfolding word
word_back v h = from_le_bytes-to_le_bytes_4 v h

-- ---- words one after another
pub length-words : (n : ℕ) (p : List ℕ) → length (le4s n p) ≡ n * 4
unfolding le4s
length-words n p = length-cat n 4 (λ t. le4 (slice_index p t)) (λ t l. length-le4 (slice_index p t))

word_chunk : (n : ℕ) (p : List ℕ) (k : ℕ) → k < n → chunk 4 k (le4s n p) ≡ le4 (slice_index p k)
unfolding le4s
word_chunk n p k l = chunk-cat 4 n (λ t. le4 (slice_index p t)) (λ t l. length-le4 (slice_index p t)) k l

module _ (n : ℕ) (p : List ℕ) (k : ℕ) (l : k < n) where
  word_byte : (o : ℕ) → o < 4 → slice_index (le4s n p) (k * 4 + o) ≡ slice_index (le4 (slice_index p k)) o
  word_byte o w = sym (get_d_chunk 4 k (le4s n p) o 0 w) ∙ ap (λ (r : List ℕ). slice_index r o) (word_chunk n p k l)

  pub word_read : slice_index_or p k 0 < 2 ^ 32 → word_at (k * 4) (le4s n p) ≡ slice_index p k
  unfolding le4
  word_read small =
      let e0 : slice_index_or (le4s n p) (k * 4) 0 ≡ slice_index p k % 2 ^ 8 =
      ap (λ a. slice_index (le4s n p) a) (sym (add-zero (k * 4))) ∙ word_byte 0 (omega arith) in
      rw (word_byte 3 (omega arith), word_byte 2 (omega arith), word_byte 1 (omega arith), e0) (word_back (slice_index p k) small)

-- word k overwritten
module _ (n : ℕ) (p : List ℕ) (k v : ℕ) (long : length p ≡ n) (l : k < n) where
  pub words-set : put_mid (k * 4) 4 (le4s n p) (le4 v) ≡ le4s n (slice_set p k v)
  unfolding le4s chunk
  words-set = sym (take_all (n * 4) y (omega (arith, size))) ∙ sym (cat-chunk 4 n y) ∙ cat-ext n _ _ same
    where
      y : List ℕ
      y = put_mid (k * 4) 4 (le4s n p) (le4 v)

      inside : k * 4 + 4 ≤ length (le4s n p)
      inside = omega (arith, length-words n p)

      size : length y ≡ n * 4
      size = length-put (k * 4) 4 (le4 v) (le4s n p) (length-le4 v) inside ∙ length-words n p

      same : (j : ℕ) → j < n → chunk 4 j y ≡ le4 (slice_index (slice_set p k v) j)
      same j h = by-eq _ j k
          (λ e. ap (λ i. chunk 4 i y) e ∙ get-put-same (k * 4) 4 (le4 v) (le4s n p) (length-le4 v) (omega (arith, inside))
          ∙ ap le4 (sym (ap (λ i. slice_index (slice_set p k v) i) e ∙ get_or-set_same p k v 0 (omega arith))))
          (λ e. other j h e (nat_lt j k) refl ∙ word_chunk n p j h ∙ ap le4 (sym (get_or-set_other p k j v 0 e)))
        where
          other : (j : ℕ) → j < n → j ≢ k → (b : Bool) → nat_lt j k ≡ b → chunk 4 j y ≡ chunk 4 j (le4s n p)
          other j h e true q =
              get-put-before (j * 4) 4 (k * 4) 4 (le4 v) (le4s n p) (omega (arith, ltb-true j k q)) (omega (arith, inside))
          other j h e false q =
              get-put-after (j * 4) 4 (k * 4) 4 (le4 v) (le4s n p) (length-le4 v) (omega (arith, ltb-false j k q)) (omega (arith, inside))
