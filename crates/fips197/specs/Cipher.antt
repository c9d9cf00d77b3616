-- Cipher (FIPS 197, 5.1) for keys of 128 bits: 10 rounds.
use Rattle.std.specs.Prelude.{List, [], ◌∷◌, ℕ, zero, suc, ◌+◌, ◌-◌, ◌*◌, ◌/◌, ◌%◌, get_or}
use Rattle.std.specs.Int.Bits.{bit_xor}
use Rattle.lists.specs.Over.{tab}
use Rattle.fips197.specs.Field.{product}
use Rattle.fips197.specs.Sbox.{SBox}
use Rattle.fips197.specs.Key.{key_expansion}

-- the State (3.4): 16 bytes, s[r, c] being byte r + 4c
abbrev pub at : List ℕ → ℕ → ℕ → ℕ
at s r c = get_or s (r + 4 * c) 0

abbrev pub state : (ℕ → ℕ → ℕ) → List ℕ
state g = tab 16 (λ p. g (p % 4) (p / 4))

-- (5.1.1)
unfoldable pub sub_bytes : List ℕ → List ℕ
sub_bytes s = state (λ r c. SBox (at s r c))

-- (5.1.2) row r is moved to the left by r: s'[r, c] is s[r, (c + r) mod 4]
unfoldable pub shift_rows : List ℕ → List ℕ
shift_rows s = state (λ r c. at s r ((c + r) % 4))

-- (5.1.3) the matrix: row 0 is {02} {03} {01} {01}, and each row is the one above, moved on by one
unfoldable pub matrix : ℕ → ℕ → ℕ
matrix r q = get_or (2 ∷ 3 ∷ 1 ∷ 1 ∷ []) ((q + (4 - r)) % 4) 0

unfoldable pub mix_columns : List ℕ → List ℕ
mix_columns s =
    state (λ r c. bit_xor (bit_xor (bit_xor (product (matrix r 0) (at s 0 c)) (product (matrix r 1) (at s 1 c)))
    (product (matrix r 2) (at s 2 c))) (product (matrix r 3) (at s 3 c)))

-- (5.1.4) the words w[4k] to w[4k + 3] are added to the columns
unfoldable pub add_round_key : List ℕ → ℕ → List ℕ → List ℕ
add_round_key w k s = state (λ r c. bit_xor (at s r c) (get_or w (4 * (4 * k + c) + r) 0))

-- the State after k of the rounds that are alike, k from 1 to 9
unfoldable pub rounds : List ℕ → ℕ → List ℕ → List ℕ
rounds w zero s = add_round_key w 0 s
rounds w (suc k) s = add_round_key w (suc k) (mix_columns (shift_rows (sub_bytes (rounds w k s))))

-- Cipher (Figure 5): the last round has no MixColumns
unfoldable pub cipher : List ℕ → List ℕ → List ℕ
cipher w s = add_round_key w 10 (shift_rows (sub_bytes (rounds w 9 s)))

-- AES-128
unfoldable pub aes128 : List ℕ → List ℕ → List ℕ
aes128 key s = cipher (key_expansion key) s
