-- BLAKE3's compression function (the specification, 2.2), on lists of words.
use Rattle.std.specs.Prelude.{ℕ, zero, suc, ◌+◌, ◌/◌, ◌%◌, ◌^◌, List, [], ◌∷◌, ◌++◌, map, get_or, take}
use Rattle.std.specs.Int.Bits.{bit_xor}
use Rattle.word.specs.Word.{rotr, plus, Quad, quad_at, put}

-- the start values
abbrev pub IV : List ℕ
IV =
    0x6a09e667 ∷ 0xbb67ae85 ∷ 0x3c6ef372 ∷ 0xa54ff53a ∷ 0x510e527f ∷ 0x9b05688c ∷ 0x1f83d9ab ∷ 0x5be0cd19 ∷ []

-- the word order: place i of the next round takes word MSG_PERMUTATION[i]
abbrev pub MSG_PERMUTATION : List ℕ
MSG_PERMUTATION = 2 ∷ 6 ∷ 3 ∷ 10 ∷ 7 ∷ 0 ∷ 4 ∷ 13 ∷ 1 ∷ 11 ∷ 12 ∷ 5 ∷ 9 ∷ 14 ∷ 15 ∷ 8 ∷ []

-- ---- the quarter round

-- one half of it: a message word goes in, with the rotations j and k
unfoldable pub half : ℕ → ℕ → ℕ → Quad → Quad
half j k m q =
    let a = plus (plus q.a q.b) m in
    let d = rotr j (bit_xor q.d a) in
    let c = plus q.c d in
    let b = rotr k (bit_xor q.b c) in
    record { a = a; b = b; c = c; d = d }

unfoldable pub quarter : ℕ → ℕ → Quad → Quad
quarter x y q = half 8 7 y (half 16 12 x q)

-- at the places i, j, k, l of the state v, with the message words x and y
unfoldable pub g : ℕ → ℕ → ℕ → ℕ → ℕ → ℕ → List ℕ → List ℕ
g i j k l x y v = put v i j k l (quarter x y (quad_at i j k l v))

-- ---- the rounds

unfoldable pub columns : List ℕ → List ℕ → List ℕ
columns m v =
    let v1 = g 0 4 8 12 (get_or m 0 0) (get_or m 1 0) v in
    let v2 = g 1 5 9 13 (get_or m 2 0) (get_or m 3 0) v1 in
    let v3 = g 2 6 10 14 (get_or m 4 0) (get_or m 5 0) v2 in
    g 3 7 11 15 (get_or m 6 0) (get_or m 7 0) v3

unfoldable pub diagonals : List ℕ → List ℕ → List ℕ
diagonals m v =
    let v1 = g 0 5 10 15 (get_or m 8 0) (get_or m 9 0) v in
    let v2 = g 1 6 11 12 (get_or m 10 0) (get_or m 11 0) v1 in
    let v3 = g 2 7 8 13 (get_or m 12 0) (get_or m 13 0) v2 in
    g 3 4 9 14 (get_or m 14 0) (get_or m 15 0) v3

unfoldable pub round : List ℕ → List ℕ → List ℕ
round m v = diagonals m (columns m v)

-- the message words in the order of the next round
unfoldable pub permute : List ℕ → List ℕ
permute m = map (λ (i : ℕ). get_or m i 0) MSG_PERMUTATION

-- n rounds, with the words permuted between two
unfoldable pub rounds : ℕ → List ℕ → List ℕ → List ℕ
rounds zero m v = v
rounds (suc n) m v = rounds n (permute m) (round m v)

-- ---- the whole

abbrev pub eight : List ℕ
eight = 0 ∷ 1 ∷ 2 ∷ 3 ∷ 4 ∷ 5 ∷ 6 ∷ 7 ∷ []

-- the first eight words of a list
abbrev pub words8 : List ℕ → List ℕ
words8 h = map (λ (i : ℕ). get_or h i 0) eight

-- the state before the first round: the chaining value h, half of IV, the counter's two words, the number of bytes n, the flags f
abbrev pub state : List ℕ → ℕ → ℕ → ℕ → ℕ → List ℕ
state h low high n f = words8 h ++ (take 4 IV ++ (low ∷ high ∷ n ∷ f ∷ []))

-- the same with the counter t of 64 bits
abbrev pub start : List ℕ → ℕ → ℕ → ℕ → List ℕ
start h t n f = state h (t % 2 ^ 32) (t / 2 ^ 32) n f

-- the first half of the state xor the second half
abbrev pub fold : List ℕ → List ℕ
fold v = map (λ (i : ℕ). bit_xor (get_or v i 0) (get_or v (i + 8) 0)) eight

-- the chaining value after the block m
unfoldable pub compress : List ℕ → List ℕ → ℕ → ℕ → ℕ → List ℕ
compress h m t n f = fold (rounds 7 m (start h t n f))
