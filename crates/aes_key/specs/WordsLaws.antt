-- The words of an expanded key, byte by byte: where a byte of a word stands, and that the code's words are KeyExpansion's.
use Rattle.std.specs.Prelude.{◌≡◌, refl, Bool, length, get_or, take, drop, set, eqb, ltb}
use Rattle.std.proofs.Common.{sym, ◌∙◌, add-zero, add-one, get_or-set_same, get_or-set_other, take-add, take_all, eqb-true, ltb-true, eq-eqb, ne_eqb}
use Rattle.std.proofs.Math.Path.{ap, ap₂}
use Rattle.std.proofs.Math.Bool.{true, false}
use mathlib.Core.List.{List, [], ◌∷◌, ◌++◌}
use Prim.Native.Nat.{ℕ, suc, ◌+◌, ◌-◌, ◌*◌, ◌/◌, ◌%◌, ◌<◌, ◌≤◌}
use native.Mathlib.Omega.{arith}
use Rattle.std.specs.Int.Bits.{bit_xor}
use Rattle.lists.specs.Pick.{pick}
use Rattle.lists.specs.All.{all_of, of-all}
use Rattle.lists.specs.Over.{tab, cat}
use Rattle.lists.specs.Tab.{take-tab}
use Rattle.lists.specs.Rows.{chunk-cat, get_d_chunk, cat-ext, tab-ext}
use Rattle.lists.specs.Bytes.{Bytes}
use Rattle.algebra.specs.Group.{odd}
use Rattle.algebra.specs.Sum.{sum}
use Rattle.fips197.specs.Field.{product, times, mod_m}
use Rattle.fips197.specs.Sbox.{SBox}
use Rattle.fips197.proofs.SboxLaws.{sbox-byte}
use Rattle.fips197.specs.Key.{word_byte, power, rcon, sub_rot, temp, next, words, key_expansion}
use Rattle.aes_tables.specs.Word.{bytes4}
use Rattle.aes_tables.specs.WordLaws.{length-bytes4, bytes4-tab, xor4, bytes4-xor, bytes4-column4, bytes4-byte}
use Rattle.aes_key.specs.Words.{words_bytes, word_at, sub_rot_of, next_of}

-- byte r of word j
pub words-byte : (n : ℕ) (w : List ℕ) (j r : ℕ) → j < n → r < 4 → get_or (words_bytes n w) (4 * j + r) 0 ≡ get_or (bytes4 (get_or w j 0)) r 0
unfolding words_bytes
words-byte n w j r h l =
    let g : ℕ → List ℕ = λ i. bytes4 (get_or w i 0) in
    ap (λ a. get_or (cat n g) (a + r) 0) (let e : 4 * j ≡ j * 4 = omega arith in e) ∙ sym (get_d_chunk 4 j (cat n g) r 0 l)
    ∙ ap (λ (b : List ℕ). get_or b r 0) (chunk-cat 4 n g (λ i k. length-bytes4 (get_or w i 0)) j h)

-- word i is written
words-set : (w : List ℕ) (i v : ℕ) → i < length w → words_bytes (i + 1) (set w i v) ≡ words_bytes i w ++ bytes4 v
unfolding words_bytes cat
words-set w i v h =
    rw (add-one i)
    (ap₂ ◌++◌
    (cat-ext i (λ j. bytes4 (get_or (set w i v) j 0)) (λ j. bytes4 (get_or w j 0)) (λ j l. ap bytes4 (get_or-set_other w i j v 0 (omega arith))))
    (ap bytes4 (get_or-set_same w i v 0 h)))

pub words-none : (w key : List ℕ) → words_bytes 0 w ≡ take (0 * 4) key
unfolding words_bytes cat
words-none w key = refl

-- ---- the key's own words
bytes4-at : (s : List ℕ) → Bytes s → (at : ℕ) → at + 4 ≤ length s → bytes4 (word_at s at) ≡ take 4 (drop at s)
unfolding word_at tab
bytes4-at s h at k =
    bytes4-column4 _ _ _ _ (h at) (h (at + 1)) (h (at + 2)) (h (at + 3))
    ∙ ap (λ n. get_or s n 0 ∷ get_or s (at + 1) 0 ∷ get_or s (at + 2) 0 ∷ get_or s (at + 3) 0 ∷ []) (sym (add-zero at)) ∙ sym (take-tab 4 at s 0 k)

pub words-load : (w key : List ℕ) (i v : ℕ) → Bytes key → i < length w → i * 4 + 4 ≤ length key → words_bytes i w ≡ take (i * 4) key
    → v ≡ word_at key (i * 4) → words_bytes (i + 1) (set w i v) ≡ take ((i + 1) * 4) key
words-load w key i v hk hw h e hv =
    words-set w i v hw ∙ ap₂ ◌++◌ e (ap bytes4 hv ∙ bytes4-at key hk (i * 4) h) ∙ sym (take-add (i * 4) 4 key)
    ∙ ap (λ n. take n key) (let q : i * 4 + 4 ≡ (i + 1) * 4 = omega arith in q)

pub words-own : (w key : List ℕ) (i : ℕ) → i ≡ 4 → length key ≡ 16 → words_bytes i w ≡ take (i * 4) key → words_bytes 4 w ≡ words key 0
unfolding words
words-own w key i h l e = ap (λ n. words_bytes n w) (sym h) ∙ e ∙ take_all (i * 4) key (omega arith)

-- ---- one word more
powers : all_of 10 (λ j. ltb (power j) 256) ≡ true
unfolding all_of power product times mod_m sum odd
powers = refl

power-byte : (j : ℕ) → j < 10 → power j < 256
power-byte j h = ltb-true (power j) 256 (of-all 10 (λ j. ltb (power j) 256) powers j h)

module _ (w : List ℕ) (i : ℕ) (h : 4 ≤ i) (l : i < 44) where
  own : (j r : ℕ) → j < i → r < 4 → get_or (bytes4 (get_or w j 0)) r 0 ≡ word_byte (words_bytes i w) j r
  own j r hj hr = sym (words-byte i w j r hj hr)

  word_bytes : (j : ℕ) → j < i → bytes4 (get_or w j 0) ≡ tab 4 (word_byte (words_bytes i w) j)
  word_bytes j hj =
      bytes4-tab (get_or w j 0)
      ∙ tab-ext 4 (λ r. get_or (bytes4 (get_or w j 0)) r 0) (word_byte (words_bytes i w) j) (λ r hr. own j r hj hr)

  rot-bytes : (j : ℕ) → j < i → bytes4 (sub_rot_of (get_or w j 0)) ≡ tab 4 (sub_rot (words_bytes i w) j)
  unfolding sub_rot_of bytes4 tab
  rot-bytes j hj =
      bytes4-column4 _ _ _ _ (sbox-byte (get_or w j 0 / 0x100 % 256)) (sbox-byte (get_or w j 0 / 0x1_0000 % 256))
      (sbox-byte (get_or w j 0 / 0x100_0000 % 256)) (sbox-byte (get_or w j 0 % 256))
      ∙ tab-ext 4 (λ r. SBox (get_or (bytes4 (get_or w j 0)) ((r + 1) % 4) 0)) (sub_rot (words_bytes i w) j)
      (λ r hr. ap SBox (own j ((r + 1) % 4) hj (omega arith)))

  -- byte r of temp, where b says whether i is a multiple of 4
  abbrev temp_by : Bool → ℕ → ℕ
  temp_by b r = pick b (bit_xor (sub_rot (words_bytes i w) (i - 1) r) (rcon (i / 4) r)) (word_byte (words_bytes i w) (i - 1) r)

  temp-bytes : (b : Bool) → eqb (i % 4) 0 ≡ b
      → bytes4 (pick b (bit_xor (sub_rot_of (get_or w (i - 1) 0)) (power (i / 4 - 1))) (get_or w (i - 1) 0)) ≡ tab 4 (temp_by b)
  unfolding xor4 rcon tab
  temp-bytes true e =
      bytes4-xor (sub_rot_of (get_or w (i - 1) 0)) (power (i / 4 - 1))
      ∙ ap₂ xor4 (rot-bytes (i - 1) (omega arith)) (bytes4-byte (power (i / 4 - 1)) (power-byte (i / 4 - 1) (omega arith)))
  temp-bytes false e = word_bytes (i - 1) (omega arith)

  next-bytes : bytes4 (next_of w i) ≡ next (words_bytes i w) i
  unfolding next_of next temp tab xor4
  next-bytes =
      bytes4-xor (get_or w (i - 4) 0) (pick (eqb (i % 4) 0) (bit_xor (sub_rot_of (get_or w (i - 1) 0)) (power (i / 4 - 1))) (get_or w (i - 1) 0))
      ∙ ap₂ xor4 (word_bytes (i - 4) (omega arith)) (temp-bytes (eqb (i % 4) 0) refl)

  pub words-next : (key : List ℕ) (v : ℕ) → i < length w → words_bytes i w ≡ words key (i - 4) → v ≡ next_of w i
      → words_bytes (i + 1) (set w i v) ≡ words key (i + 1 - 4)
  unfolding words
  words-next key v hw e hv =
      let m : ℕ = i - 4 in
      words-set w i v hw ∙ ap₂ ◌++◌ e (ap bytes4 hv ∙ next-bytes ∙ ap₂ next e (let q : i ≡ 4 + m = omega arith in q))
      ∙ ap (words key) (let q : suc m ≡ i + 1 - 4 = omega arith in q)

pub words-end : (w key : List ℕ) (i : ℕ) → i ≡ 44 → words_bytes i w ≡ words key (i - 4) → words_bytes 44 w ≡ key_expansion key
unfolding key_expansion
words-end w key i h e =
    ap (λ n. words_bytes n w) (sym h) ∙ e ∙ ap (words key) (let q : i - 4 ≡ 40 = omega arith in q)

-- ---- the round constants
abbrev pub constants : List ℕ
constants = 1 ∷ 2 ∷ 4 ∷ 8 ∷ 16 ∷ 32 ∷ 64 ∷ 128 ∷ 0x1b ∷ 0x36 ∷ []

tested : all_of 10 (λ j. eqb (get_or constants j 0) (power j)) ≡ true
unfolding all_of power product times mod_m sum odd
tested = refl

pub constant-at : (j : ℕ) → j < 10 → get_or constants j 0 ≡ power j
constant-at j h = eqb-true (get_or constants j 0) (power j) (of-all 10 (λ j. eqb (get_or constants j 0) (power j)) tested j h)

-- ---- w[i], as the code has it
module _ (w : List ℕ) (i : ℕ) where
  pub next_multiple : (s k : ℕ) → i % 4 ≡ 0 → s ≡ sub_rot_of (get_or w (i - 1) 0) → k ≡ power (i / 4 - 1)
      → bit_xor (get_or w (i - 4) 0) (bit_xor s k) ≡ next_of w i
  unfolding next_of
  next_multiple s k h p q =
      ap₂ (λ s k. bit_xor (get_or w (i - 4) 0) (bit_xor s k)) p q
      ∙ ap (λ (b : Bool). bit_xor (get_or w (i - 4) 0) (pick b (bit_xor (sub_rot_of (get_or w (i - 1) 0)) (power (i / 4 - 1))) (get_or w (i - 1) 0)))
      (sym (eq-eqb (i % 4) 0 h))

  pub next-other : (i % 4 ≡ 0 → ⊥) → bit_xor (get_or w (i - 4) 0) (get_or w (i - 1) 0) ≡ next_of w i
  unfolding next_of
  next-other h =
      ap (λ (b : Bool). bit_xor (get_or w (i - 4) 0) (pick b (bit_xor (sub_rot_of (get_or w (i - 1) 0)) (power (i / 4 - 1))) (get_or w (i - 1) 0)))
      (sym (ne_eqb (i % 4) 0 h))
