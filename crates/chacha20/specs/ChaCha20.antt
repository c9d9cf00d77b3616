-- ChaCha20's block function (RFC 8439, 2.1 to 2.3), on lists of words.
use Rattle.std.specs.Prelude.{List, [], ◌∷◌, ◌++◌, map, ℕ, zero, suc, get_or}
use Rattle.std.specs.Int.Bits.{bit_xor}
use Rattle.lists.specs.Over.{tab}
use Rattle.word.specs.Word.{rotl, plus, word_list, le4s, Quad, quad_at, put}

-- ---- 2.1, The ChaCha Quarter Round
-- one half of it, with its two rotations: steps 1 and 2 have 16 and 12, steps 3 and 4 have 8 and 7
unfoldable pub half : ℕ → ℕ → Quad → Quad
half j k q =
    let a = plus q.a q.b in
    let d = rotl j (bit_xor q.d a) in
    let c = plus q.c d in
    let b = rotl k (bit_xor q.b c) in
    record { a = a; b = b; c = c; d = d }

unfoldable pub quarter : Quad → Quad
quarter q = half 8 7 (half 16 12 q)

-- ---- 2.2, A Quarter Round on the ChaCha State: QUARTERROUND(x, y, z, w)
unfoldable pub qround : ℕ → ℕ → ℕ → ℕ → List ℕ → List ℕ
qround x y z w v = put v x y z w (quarter (quad_at x y z w v))

-- ---- 2.3, The ChaCha20 Block Function
abbrev pub CONSTANTS : List ℕ
CONSTANTS = 0x61707865 ∷ 0x3320646e ∷ 0x79622d32 ∷ 0x6b206574 ∷ []

-- the words of the key and of the nonce
abbrev pub eight : List ℕ
eight = 0 ∷ 1 ∷ 2 ∷ 3 ∷ 4 ∷ 5 ∷ 6 ∷ 7 ∷ []

abbrev pub three : List ℕ
three = 0 ∷ 1 ∷ 2 ∷ []

-- constants | key | counter | nonce, key and nonce as words
unfoldable pub state : List ℕ → ℕ → List ℕ → List ℕ
state key counter nonce = CONSTANTS ++ (map (λ (i : ℕ). get_or key i 0) eight ++ (counter ∷ map (λ (i : ℕ). get_or nonce i 0) three))

-- column rounds, then diagonal rounds
unfoldable pub columns : List ℕ → List ℕ
columns v = qround 3 7 11 15 (qround 2 6 10 14 (qround 1 5 9 13 (qround 0 4 8 12 v)))

unfoldable pub diagonals : List ℕ → List ℕ
diagonals v = qround 3 4 9 14 (qround 2 7 8 13 (qround 1 6 11 12 (qround 0 5 10 15 v)))

unfoldable pub inner_block : List ℕ → List ℕ
inner_block v = diagonals (columns v)

-- n times; there are 10
unfoldable pub rounds : ℕ → List ℕ → List ℕ
rounds zero v = v
rounds (suc n) v = inner_block (rounds n v)

-- state += initial_state
unfoldable pub sums : List ℕ → List ℕ → List ℕ
sums v s = tab 16 (λ i. plus (get_or v i 0) (get_or s i 0))

-- the words of a block
unfoldable pub words : List ℕ → ℕ → List ℕ → List ℕ
words key counter nonce = sums (rounds 10 (state key counter nonce)) (state key counter nonce)

-- serialize(state): the words one after another, each in little-endian order
unfoldable pub serialize : List ℕ → List ℕ
serialize v = le4s 16 v

-- chacha20_block(key, counter, nonce): of 32 key bytes, a counter and 12 nonce bytes, 64 bytes
unfoldable pub block : List ℕ → ℕ → List ℕ → List ℕ
block key counter nonce = serialize (words (word_list 8 key) counter (word_list 3 nonce))
