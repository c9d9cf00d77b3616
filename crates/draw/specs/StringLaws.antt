-- What the strings are, lent or drawn; their lengths, their bytes, and Blocks of them.
use Rattle.std.specs.Prelude.{◌≡◌, Bool, true, false, ◌≢◌, List, [], ◌∷◌, ℕ, ◌+◌, ◌*◌, ◌/◌, ◌%◌, ◌^◌, ◌<◌, ◌≤◌, length}
use Rattle.std.proofs.Common.{sym, ◌∙◌, add-zero, arith, eq-eqb, ne_eqb, eqb-true}
use Rattle.std.proofs.Math.Path.{ap}
use Rattle.std.proofs.lemmas.Bool.{eqb-false}
use Rattle.lists.specs.Pick.{pick, by-eq}
use Rattle.lists.specs.Over.{tab, cat, length-cat, in-chunks}
use Rattle.lists.specs.Rows.{chunk-cat}
use Rattle.lists.specs.Bytes.{Bytes, bytes-cat}
use Rattle.block.specs.Block.{block_at, le8, bytes_of}
use Rattle.block.specs.Trip.{block-chunk}
use Rattle.fips197.specs.Key.{key_expansion}
use Rattle.fips197.specs.Cipher.{aes128}
use Rattle.fips197.proofs.CipherLaws.{length-cipher, bytes-cipher, bytes-key_expansion}
use Rattle.draw.specs.Strings.{seed?, counter, drawn, strings}
use Rattle.draw.specs.Given.{Whole}

-- ---- lent or drawn
pub seed-yes : (len : ℕ) → seed? len ≡ true → len ≡ 16
unfolding seed?
seed-yes len h = eqb-true len 16 h

pub seed-no : (len : ℕ) → seed? len ≡ false → len ≢ 16
unfolding seed?
seed-no len h = eqb-false len 16 h

module _ (count : ℕ) (r : List ℕ) where
  pub strings-lent : length r ≢ 16 → strings count r ≡ r
  unfolding strings seed?
  strings-lent h = ap (λ (b : Bool). pick b (cat count (drawn r)) r) (ne_eqb (length r) 16 h)

  pub strings-drawn : length r ≡ 16 → strings count r ≡ cat count (drawn r)
  unfolding strings seed?
  strings-drawn h = ap (λ (b : Bool). pick b (cat count (drawn r)) r) (eq-eqb (length r) 16 h)

-- ---- lengths and bytes
pub length-drawn : (seed : List ℕ) (c : ℕ) → length (drawn seed c) ≡ 16
unfolding drawn aes128
length-drawn seed c = length-cipher (key_expansion seed) (counter c)

bytes-drawn : (seed : List ℕ) (c : ℕ) → Bytes seed → Bytes (drawn seed c)
unfolding drawn aes128
bytes-drawn seed c h = bytes-cipher (key_expansion seed) (counter c) (bytes-key_expansion seed h)

pub length-strings : (count : ℕ) (r : List ℕ) → length r ≡ 16 → length (strings count r) ≡ count * 16
length-strings count r h = ap length (strings-drawn count r h) ∙ length-cat count 16 (drawn r) (λ c l. length-drawn r c)

-- so are enough Blocks given, there are enough
pub strings-whole : (count : ℕ) (r : List ℕ) → Whole count r → count * 16 ≤ length (strings count r)
strings-whole count r w =
    by-eq (count * 16 ≤ length (strings count r)) (length r) 16
    (λ e. omega (arith, length-strings count r e))
    (λ n. omega (arith, w.lent n, ap length (strings-lent count r n)))

pub bytes-strings : (count : ℕ) (r : List ℕ) → Bytes r → Bytes (strings count r)
bytes-strings count r h =
    by-eq (Bytes (strings count r)) (length r) 16
    (λ e. rw (strings-drawn count r e) (bytes-cat count (drawn r) (λ c l. bytes-drawn r c h)))
    (λ n. rw (strings-lent count r n) h)

-- ---- Blocks

-- the counter's Block: its number is the low word
pub counter-block : (c : ℕ) → c < 2 ^ 64 → counter c ≡ bytes_of (record { 0 = c; 1 = 0 })
unfolding counter tab bytes_of le8
counter-block c h =
    let low : c / 1 % 256 ≡ c % 256 = omega arith in
    let z0 : c / 256 ^ 8 % 256 ≡ 0 = omega arith in
    let z1 : c / 256 ^ 9 % 256 ≡ 0 = omega arith in
    let z2 : c / 256 ^ 10 % 256 ≡ 0 = omega arith in
    let z3 : c / 256 ^ 11 % 256 ≡ 0 = omega arith in
    let z4 : c / 256 ^ 12 % 256 ≡ 0 = omega arith in
    let z5 : c / 256 ^ 13 % 256 ≡ 0 = omega arith in
    let z6 : c / 256 ^ 14 % 256 ≡ 0 = omega arith in
    let z7 : c / 256 ^ 15 % 256 ≡ 0 = omega arith in
    λ i. low i ∷ c / 256 ^ 1 % 256 ∷ c / 256 ^ 2 % 256 ∷ c / 256 ^ 3 % 256 ∷ c / 256 ^ 4 % 256 ∷ c / 256 ^ 5 % 256 ∷ c / 256 ^ 6 % 256
    ∷ c / 256 ^ 7 % 256 ∷ z0 i ∷ z1 i ∷ z2 i ∷ z3 i ∷ z4 i ∷ z5 i ∷ z6 i ∷ z7 i ∷ []

-- Block c of all of them
pub block-drawn : (count c : ℕ) (seed : List ℕ) → length seed ≡ 16 → c < count
    → block_at (strings count seed) (c * 16) ≡ block_at (drawn seed c) 0
block-drawn count c seed h l =
    ap (λ (x : List ℕ). block_at x (c * 16)) (strings-drawn count seed h)
    ∙ sym (block-chunk 16 c (cat count (drawn seed)) 0 (omega arith) ∙ ap (block_at (cat count (drawn seed))) (add-zero (c * 16)))
    ∙ ap (λ (x : List ℕ). block_at x 0) (chunk-cat 16 count (drawn seed) (λ j v. length-drawn seed j) c l)

-- Block q of string j, of strings of `blocks` Blocks each, is number j * blocks + q
pub string-block : (blocks j q : ℕ) (seed : List ℕ) → length seed ≡ 16 → j < 120 → q < blocks
    → block_at (strings (120 * blocks) seed) (j * (16 * blocks) + q * 16) ≡ block_at (drawn seed (j * blocks + q)) 0
string-block blocks j q seed h l v =
    ap (block_at (strings (120 * blocks) seed)) (let e : j * (16 * blocks) + q * 16 ≡ (j * blocks + q) * 16 = omega arith in e)
    ∙ block-drawn (120 * blocks) (j * blocks + q) seed h (omega (arith, in-chunks j 120 blocks l))
