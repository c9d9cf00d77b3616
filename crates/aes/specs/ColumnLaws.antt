-- Rounds by tables are FIPS 197's, byte by byte. The State is four columns, `state g` has g r c at row r of column c.
use Rattle.std.specs.Prelude.{◌≡◌, ℕ, zero, suc, ◌+◌, ◌-◌, ◌*◌, ◌/◌, ◌%◌, ◌<◌, ◌≤◌, get_or}
use Rattle.std.proofs.Math.Path.{refl, sym, ap}
use Rattle.std.proofs.Common.{ap₂, ◌∙◌, zero-add, arith}
use mathlib.Core.List.{List, [], ◌∷◌, ◌++◌, append_assoc}
use Rattle.std.proofs.Math.Nat.{mul-add-mod_self_right}
use Rattle.std.specs.Int.Bits.{bit_xor}
use Rattle.lists.specs.Over.{tab, get_or-tab}
use Rattle.lists.specs.Rows.{tab-ext}
use Rattle.block.specs.declared.Block.{Block}
use Rattle.block.specs.Block.{le8, bytes_of}
use Rattle.fips197.specs.Field.{product}
use Rattle.fips197.specs.Sbox.{SBox}
use Rattle.fips197.proofs.SboxLaws.{sbox-byte}
use Rattle.fips197.specs.Cipher.{at, state, sub_bytes, shift_rows, matrix, mix_columns, add_round_key, rounds}
use Rattle.aes_tables.specs.Word.{column4, bytes4}
use Rattle.aes_tables.specs.Tables.{tables}
use Rattle.aes_tables.specs.WordLaws.{xor4, bytes4-xor, bytes4-column4}
use Rattle.aes_tables.specs.ReadLaws.{mixed, bytes4-entry}
use Rattle.aes_key.specs.Words.{words_bytes}
use Rattle.aes_key.specs.WordsLaws.{words-byte}
use Rattle.aes.specs.declared.Columns.{Columns}
use Rattle.aes.specs.Columns.{state_of, block_of, columns_of, column_of, last_of}

-- ---- the definition's State
at-state : (g : ℕ → ℕ → ℕ) (r c : ℕ) → r < 4 → c < 4 → at (state g) r c ≡ g r c
at-state g r c h l =
    get_or-tab 16 (r + 4 * c) (λ p. g (p % 4) (p / 4)) 0 (omega arith)
    ∙ ap₂ g (let e : (r + 4 * c) % 4 ≡ r = omega arith in e) (let e : (r + 4 * c) / 4 ≡ c = omega arith in e)

state-ext : (f g : ℕ → ℕ → ℕ) → ((r c : ℕ) → r < 4 → c < 4 → f r c ≡ g r c) → state f ≡ state g
state-ext f g h = tab-ext 16 (λ p. f (p % 4) (p / 4)) (λ p. g (p % 4) (p / 4)) (λ p l. h (p % 4) (p / 4) (omega arith) (omega arith))

-- SubBytes and ShiftRows
abbrev moved : List ℕ → ℕ → ℕ → ℕ
moved s r c = SBox (at s r ((c + r) % 4))

sub-shift : (s : List ℕ) → shift_rows (sub_bytes s) ≡ state (moved s)
unfolding shift_rows sub_bytes
sub-shift s =
    state-ext (λ r c. at (state (λ r c. SBox (at s r c))) r ((c + r) % 4)) (moved s)
    (λ r c h l. at-state (λ r c. SBox (at s r c)) r ((c + r) % 4) h (omega arith))

-- row r of what MixColumns makes of a column
abbrev mix_at : ℕ → ℕ → ℕ → ℕ → ℕ → ℕ
mix_at r s0 s1 s2 s3 =
    bit_xor (bit_xor (bit_xor (product (matrix r 0) s0) (product (matrix r 1) s1)) (product (matrix r 2) s2)) (product (matrix r 3) s3)

abbrev mixed_at : (ℕ → ℕ → ℕ) → ℕ → ℕ → ℕ
mixed_at g r c = mix_at r (g 0 c) (g 1 c) (g 2 c) (g 3 c)

mix : (g : ℕ → ℕ → ℕ) → mix_columns (state g) ≡ state (mixed_at g)
unfolding mix_columns
mix g =
    state-ext (mixed_at (at (state g))) (mixed_at g)
    (λ r c h l i. mix_at r (at-state g 0 c (omega arith) l i) (at-state g 1 c (omega arith) l i) (at-state g 2 c (omega arith) l i)
    (at-state g 3 c (omega arith) l i))

-- ---- AddRoundKey, column by column
abbrev col : (ℕ → ℕ → ℕ) → ℕ → List ℕ
col g c = tab 4 (λ r. g r c)

-- word n of the key added
unfoldable keyed : List ℕ → ℕ → List ℕ → List ℕ
keyed w n b = tab 4 (λ r. bit_xor (get_or b r 0) (get_or w (4 * n + r) 0))

-- the words from n on, each to its column
abbrev keyed4 : List ℕ → ℕ → (ℕ → ℕ → ℕ) → List ℕ
keyed4 w n g = keyed w (n + 0) (col g 0) ++ (keyed w (n + 1) (col g 1) ++ (keyed w (n + 2) (col g 2) ++ keyed w (n + 3) (col g 3)))

add-key : (w : List ℕ) (k : ℕ) (g : ℕ → ℕ → ℕ) → add_round_key w k (state g) ≡ keyed4 w (4 * k) g
unfolding add_round_key keyed tab
add-key w k g = refl

bytes4-keyed : (w : List ℕ) (x n m : ℕ) (b : List ℕ) → bytes4 x ≡ b → m ≡ n → m < 44
    → bytes4 (bit_xor x (get_or w m 0)) ≡ keyed (words_bytes 44 w) n b
unfolding xor4 keyed
bytes4-keyed w x n m b e h l =
    let q : (r : ℕ) → r < 4 → get_or (bytes4 (get_or w m 0)) r 0 ≡ get_or (words_bytes 44 w) (4 * n + r) 0 =
    λ r hr. sym (words-byte 44 w m r l hr) ∙ ap (λ j. get_or (words_bytes 44 w) (4 * j + r) 0) h in
    bytes4-xor x (get_or w m 0)
    ∙ tab-ext 4 (λ r. bit_xor (get_or (bytes4 x) r 0) (get_or (bytes4 (get_or w m 0)) r 0))
    (λ r. bit_xor (get_or b r 0) (get_or (words_bytes 44 w) (4 * n + r) 0))
    (λ r hr. ap₂ bit_xor (ap (λ (s : List ℕ). get_or s r 0) e) (q r hr))

-- ---- a column by tables
byte : (x : ℕ) → x % 256 < 256
byte x = omega arith

xor-four : (x0 x1 x2 x3 : ℕ)
    → bytes4 (bit_xor (bit_xor (bit_xor x0 x1) x2) x3) ≡ xor4 (xor4 (xor4 (bytes4 x0) (bytes4 x1)) (bytes4 x2)) (bytes4 x3)
xor-four x0 x1 x2 x3 =
    bytes4-xor (bit_xor (bit_xor x0 x1) x2) x3
    ∙ ap (λ (b : List ℕ). xor4 b (bytes4 x3))
    (bytes4-xor (bit_xor x0 x1) x2 ∙ ap (λ (b : List ℕ). xor4 b (bytes4 x2)) (bytes4-xor x0 x1))

module _ (w : List ℕ) (a b c d n m : ℕ) (h : m ≡ n) (l : m < 44) where
  abbrev s0 : ℕ
  s0 = SBox (a % 256)

  abbrev s1 : ℕ
  s1 = SBox (b / 0x100 % 256)

  abbrev s2 : ℕ
  s2 = SBox (c / 0x1_0000 % 256)

  abbrev s3 : ℕ
  s3 = SBox (d / 0x100_0000 % 256)

  -- the tables' words
  abbrev t0 : ℕ
  t0 = get_or tables (a % 256) 0

  abbrev t1 : ℕ
  t1 = get_or tables (256 + b / 0x100 % 256) 0

  abbrev t2 : ℕ
  t2 = get_or tables (512 + c / 0x1_0000 % 256) 0

  abbrev t3 : ℕ
  t3 = get_or tables (768 + d / 0x100_0000 % 256) 0

  bytes4-sum : bytes4 (bit_xor (bit_xor (bit_xor t0 t1) t2) t3) ≡ tab 4 (λ r. mix_at r s0 s1 s2 s3)
  unfolding xor4 mixed tab
  bytes4-sum =
      let e0 : bytes4 t0 ≡ mixed 0 s0 =
      ap (λ j. bytes4 (get_or tables j 0)) (sym (zero-add (a % 256))) ∙ bytes4-entry 0 (a % 256) (omega arith) (byte a) in
      let e1 : bytes4 t1 ≡ mixed 1 s1 = bytes4-entry 1 (b / 0x100 % 256) (omega arith) (byte (b / 0x100)) in
      let e2 : bytes4 t2 ≡ mixed 2 s2 = bytes4-entry 2 (c / 0x1_0000 % 256) (omega arith) (byte (c / 0x1_0000)) in
      let e3 : bytes4 t3 ≡ mixed 3 s3 = bytes4-entry 3 (d / 0x100_0000 % 256) (omega arith) (byte (d / 0x100_0000)) in
      xor-four t0 t1 t2 t3 ∙ (λ i. xor4 (xor4 (xor4 (e0 i) (e1 i)) (e2 i)) (e3 i))

  bytes4-column : (t : List ℕ) → t ≡ tables
      → bytes4 (column_of t a b c d (get_or w m 0)) ≡ keyed (words_bytes 44 w) n (tab 4 (λ r. mix_at r s0 s1 s2 s3))
  unfolding column_of
  bytes4-column t e =
      ap (λ (t : List ℕ). bytes4 (column_of t a b c d (get_or w m 0))) e
      ∙ bytes4-keyed w (bit_xor (bit_xor (bit_xor t0 t1) t2) t3) n m (tab 4 (λ r. mix_at r s0 s1 s2 s3)) bytes4-sum h l

  bytes4-last : bytes4 (last_of a b c d (get_or w m 0)) ≡ keyed (words_bytes 44 w) n (s0 ∷ s1 ∷ s2 ∷ s3 ∷ [])
  unfolding last_of
  bytes4-last =
      bytes4-keyed w (column4 s0 s1 s2 s3) n m (s0 ∷ s1 ∷ s2 ∷ s3 ∷ [])
      (bytes4-column4 s0 s1 s2 s3 (sbox-byte (a % 256)) (sbox-byte (b / 0x100 % 256)) (sbox-byte (c / 0x1_0000 % 256))
      (sbox-byte (d / 0x100_0000 % 256))) h l

-- ---- rounds
module _ (w : List ℕ) (s r : Columns) where
  abbrev W : List ℕ
  W = words_bytes 44 w

  module _ (t : List ℕ) (k : ℕ) (e : t ≡ tables) (h : k ≤ 10) (h0 : r.0 ≡ column_of t s.0 s.1 s.2 s.3 (get_or w (k * 4) 0))
      (h1 : r.1 ≡ column_of t s.1 s.2 s.3 s.0 (get_or w (k * 4 + 1) 0))
      (h2 : r.2 ≡ column_of t s.2 s.3 s.0 s.1 (get_or w (k * 4 + 2) 0))
      (h3 : r.3 ≡ column_of t s.3 s.0 s.1 s.2 (get_or w (k * 4 + 3) 0)) where
    round-keyed : state_of r ≡ keyed4 W (4 * k) (mixed_at (moved (state_of s)))
    unfolding state_of bytes4 tab
    round-keyed =
        let p0 = ap bytes4 h0 ∙ bytes4-column w s.0 s.1 s.2 s.3 (4 * k + 0) (k * 4) (omega arith) (omega arith) t e in
        let p1 = ap bytes4 h1 ∙ bytes4-column w s.1 s.2 s.3 s.0 (4 * k + 1) (k * 4 + 1) (omega arith) (omega arith) t e in
        let p2 = ap bytes4 h2 ∙ bytes4-column w s.2 s.3 s.0 s.1 (4 * k + 2) (k * 4 + 2) (omega arith) (omega arith) t e in
        let p3 = ap bytes4 h3 ∙ bytes4-column w s.3 s.0 s.1 s.2 (4 * k + 3) (k * 4 + 3) (omega arith) (omega arith) t e in
        λ i. p0 i ++ (p1 i ++ (p2 i ++ p3 i))

    pub round-columns : state_of r ≡ add_round_key W k (mix_columns (shift_rows (sub_bytes (state_of s))))
    round-columns =
        round-keyed ∙ sym (add-key W k (mixed_at (moved (state_of s))))
        ∙ sym (ap (add_round_key W k) (ap mix_columns (sub-shift (state_of s)) ∙ mix (moved (state_of s))))

  module _ (h0 : r.0 ≡ last_of s.0 s.1 s.2 s.3 (get_or w 40 0)) (h1 : r.1 ≡ last_of s.1 s.2 s.3 s.0 (get_or w 41 0))
      (h2 : r.2 ≡ last_of s.2 s.3 s.0 s.1 (get_or w 42 0)) (h3 : r.3 ≡ last_of s.3 s.0 s.1 s.2 (get_or w 43 0)) where
    last-keyed : state_of r ≡ keyed4 W 40 (moved (state_of s))
    unfolding state_of bytes4 tab
    last-keyed =
        let p0 = ap bytes4 h0 ∙ bytes4-last w s.0 s.1 s.2 s.3 40 40 refl (omega arith) in
        let p1 = ap bytes4 h1 ∙ bytes4-last w s.1 s.2 s.3 s.0 41 41 refl (omega arith) in
        let p2 = ap bytes4 h2 ∙ bytes4-last w s.2 s.3 s.0 s.1 42 42 refl (omega arith) in
        let p3 = ap bytes4 h3 ∙ bytes4-last w s.3 s.0 s.1 s.2 43 43 refl (omega arith) in
        λ i. p0 i ++ (p1 i ++ (p2 i ++ p3 i))

    pub last-columns : state_of r ≡ add_round_key W 10 (shift_rows (sub_bytes (state_of s)))
    last-columns = last-keyed ∙ sym (add-key W 10 (moved (state_of s))) ∙ sym (ap (add_round_key W 10) (sub-shift (state_of s)))

-- ---- a Block is four columns
bytes4-low : (x : ℕ) → bytes4 x ≡ bytes4 (x % 0x1_0000_0000)
unfolding bytes4
bytes4-low x =
    let y : ℕ = x % 0x1_0000_0000 in
    let z : ℕ = x / 0x1_0000_0000 in
    let q1 : x / 0x100 ≡ z * 0x1_0000 * 256 + y / 0x100 = omega arith in
    let q2 : x / 0x1_0000 ≡ z * 0x100 * 256 + y / 0x1_0000 = omega arith in
    let q3 : x / 0x100_0000 ≡ z * 256 + y / 0x100_0000 = omega arith in
    let e0 : x % 256 ≡ y % 256 = omega arith in
    let e1 : x / 0x100 % 256 ≡ y / 0x100 % 256 = ap (λ v. v % 256) q1 ∙ mul-add-mod_self_right (z * 0x1_0000) 256 (y / 0x100) in
    let e2 : x / 0x1_0000 % 256 ≡ y / 0x1_0000 % 256 = ap (λ v. v % 256) q2 ∙ mul-add-mod_self_right (z * 0x100) 256 (y / 0x1_0000) in
    let e3 : x / 0x100_0000 % 256 ≡ y / 0x100_0000 % 256 = ap (λ v. v % 256) q3 ∙ mul-add-mod_self_right z 256 (y / 0x100_0000) in
    λ i. e0 i ∷ e1 i ∷ e2 i ∷ e3 i ∷ []

le8-halves : (x : ℕ) → le8 x ≡ bytes4 (x % 0x1_0000_0000) ++ bytes4 (x / 0x1_0000_0000)
unfolding le8 bytes4
le8-halves x =
    let z : ℕ = x / 0x1_0000_0000 in
    let q5 : x / 0x100_0000_0000 ≡ z / 0x100 = omega arith in
    let q6 : x / 0x1_0000_0000_0000 ≡ z / 0x1_0000 = omega arith in
    let q7 : x / 0x100_0000_0000_0000 ≡ z / 0x100_0000 = omega arith in
    λ i. bytes4-low x i ++ (z % 256 ∷ q5 i % 256 ∷ q6 i % 256 ∷ q7 i % 256 ∷ [])

pub bytes_of-columns : (x : Block) → bytes_of x ≡ state_of (columns_of x)
unfolding bytes_of state_of columns_of
bytes_of-columns x =
    ap₂ ◌++◌ (le8-halves x.0) (le8-halves x.1)
    ∙ append_assoc (bytes4 (x.0 % 0x1_0000_0000)) (bytes4 (x.0 / 0x1_0000_0000))
    (bytes4 (x.1 % 0x1_0000_0000) ++ bytes4 (x.1 / 0x1_0000_0000))

pub bytes_of-block : (s : Columns) → bytes_of (block_of s) ≡ state_of s
unfolding block_of columns_of state_of
bytes_of-block s =
    let b : Block = block_of s in
    let p0 : b.0 % 0x1_0000_0000 ≡ s.0 % 0x1_0000_0000 = omega arith in
    let p1 : b.0 / 0x1_0000_0000 ≡ s.1 = omega arith in
    let p2 : b.1 % 0x1_0000_0000 ≡ s.2 % 0x1_0000_0000 = omega arith in
    let p3 : b.1 / 0x1_0000_0000 ≡ s.3 = omega arith in
    let e0 = ap bytes4 p0 ∙ sym (bytes4-low s.0) in
    let e2 = ap bytes4 p2 ∙ sym (bytes4-low s.2) in
    bytes_of-columns b ∙ (λ i. e0 i ++ (bytes4 (p1 i) ++ (e2 i ++ bytes4 (p3 i))))

-- ---- the first AddRoundKey, and the turns
state-own : (s : Columns) → state (at (state_of s)) ≡ state_of s
unfolding state_of bytes4 tab
state-own s = refl

module _ (w : List ℕ) (x : Block) where
  first : (s r : Columns) → r.0 ≡ bit_xor s.0 (get_or w 0 0) → r.1 ≡ bit_xor s.1 (get_or w 1 0) → r.2 ≡ bit_xor s.2 (get_or w 2 0)
      → r.3 ≡ bit_xor s.3 (get_or w 3 0) → state_of r ≡ add_round_key (words_bytes 44 w) 0 (state_of s)
  unfolding state_of bytes4 tab
  first s r h0 h1 h2 h3 =
      let p0 = ap bytes4 h0 ∙ bytes4-keyed w s.0 0 0 (bytes4 s.0) refl refl (omega arith) in
      let p1 = ap bytes4 h1 ∙ bytes4-keyed w s.1 1 1 (bytes4 s.1) refl refl (omega arith) in
      let p2 = ap bytes4 h2 ∙ bytes4-keyed w s.2 2 2 (bytes4 s.2) refl refl (omega arith) in
      let p3 = ap bytes4 h3 ∙ bytes4-keyed w s.3 3 3 (bytes4 s.3) refl refl (omega arith) in
      (λ i. p0 i ++ (p1 i ++ (p2 i ++ p3 i))) ∙ sym (add-key (words_bytes 44 w) 0 (at (state_of s)))
      ∙ ap (add_round_key (words_bytes 44 w) 0) (state-own s)

  pub first-columns : (s r : Columns) → s ≡ columns_of x → r.0 ≡ bit_xor s.0 (get_or w 0 0) → r.1 ≡ bit_xor s.1 (get_or w 1 0)
      → r.2 ≡ bit_xor s.2 (get_or w 2 0) → r.3 ≡ bit_xor s.3 (get_or w 3 0) → state_of r ≡ rounds (words_bytes 44 w) 0 (bytes_of x)
  unfolding rounds
  first-columns s r e h0 h1 h2 h3 =
      first s r h0 h1 h2 h3 ∙ ap (add_round_key (words_bytes 44 w) 0) (ap state_of e ∙ sym (bytes_of-columns x))

pub rounds-turn : (w s : List ℕ) (k : ℕ) → 1 ≤ k
    → add_round_key w k (mix_columns (shift_rows (sub_bytes (rounds w (k - 1) s)))) ≡ rounds w (k + 1 - 1) s
unfolding rounds
rounds-turn w s zero h = absurd (omega arith)
rounds-turn w s (suc k) h =
    ap (λ j. add_round_key w (suc k) (mix_columns (shift_rows (sub_bytes (rounds w j s))))) (let e : suc k - 1 ≡ k = omega arith in e)
    ∙ ap (λ j. rounds w j s) (let e : suc k ≡ suc k + 1 - 1 = omega arith in e)
