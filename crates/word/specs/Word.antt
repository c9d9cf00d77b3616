-- Words of 32 bits, as numbers below 2 ^ 32, and their bytes, the lowest first.
use Rattle.std.specs.Prelude.{ℕ, ◌+◌, ◌-◌, ◌*◌, ◌/◌, ◌%◌, ◌^◌, List, [], ◌∷◌, slice_index, slice_set}
use Rattle.lists.specs.Over.{tab, cat}

-- x rotated right by k bits
unfoldable pub rotr : ℕ → ℕ → ℕ
rotr k x = x % 2 ^ k * 2 ^ (32 - k) + x / 2 ^ k

-- x rotated left by k bits
unfoldable pub rotl : ℕ → ℕ → ℕ
rotl k x = x % 2 ^ (32 - k) * 2 ^ k + x / 2 ^ (32 - k)

-- the sum of two words
abbrev pub plus : ℕ → ℕ → ℕ
plus x y = (x + y) % 2 ^ 32

-- the word of four bytes
unfoldable pub word : ℕ → ℕ → ℕ → ℕ → ℕ
word a b c d = a + b * 2 ^ 8 + c * 2 ^ 16 + d * 2 ^ 24

-- the word that starts at place i of a list of bytes; past the list's end the bytes are 0
abbrev pub word_at : ℕ → List ℕ → ℕ
word_at i s = word (slice_index s i) (slice_index s (i + 1)) (slice_index s (i + 2)) (slice_index s (i + 3))

-- the first c words of a list of bytes
unfoldable pub word_list : ℕ → List ℕ → List ℕ
word_list c s = tab c (λ i. word_at (i * 4) s)

-- byte k of a word
abbrev pub byte_of : ℕ → ℕ → ℕ
byte_of k x = x / 2 ^ (8 * k) % 2 ^ 8

-- the four bytes of a word
unfoldable pub le4 : ℕ → List ℕ
le4 v = v % 2 ^ 8 ∷ v / 2 ^ 8 % 2 ^ 8 ∷ v / 2 ^ 16 % 2 ^ 8 ∷ v / 2 ^ 24 % 2 ^ 8 ∷ []

-- n words of a list, one after another
unfoldable pub le4s : ℕ → List ℕ → List ℕ
le4s n p = cat n (λ t. le4 (slice_index p t))

-- ---- four words of a state, mixed by a quarter round
pub record Quad : Type 0 where
  pub a : ℕ
  pub b : ℕ
  pub c : ℕ
  pub d : ℕ

-- those at the places i, j, k, l of the state v
unfoldable pub quad_at : ℕ → ℕ → ℕ → ℕ → List ℕ → Quad
quad_at i j k l v = record { a = slice_index v i; b = slice_index v j; c = slice_index v k; d = slice_index v l }

-- v with q at these places
unfoldable pub put : List ℕ → ℕ → ℕ → ℕ → ℕ → Quad → List ℕ
put v i j k l q = slice_set (slice_set (slice_set (slice_set v i q.a) j q.b) k q.c) l q.d
