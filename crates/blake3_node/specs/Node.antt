-- The chaining values of BLAKE3's nodes (the specification, 2.4 and 2.5): a chunk of at most 1024 bytes, and a parent over two nodes.
use Rattle.std.specs.Prelude.{ℕ, zero, suc, ◌+◌, ◌-◌, ◌*◌, ◌/◌, List, [], ◌∷◌, ◌++◌, map, length, drop}
use Rattle.word.specs.Word.{word_at}
use Rattle.blake3_core.specs.Compress.{compress, IV, words8}

abbrev pub BLOCK_LEN : ℕ
BLOCK_LEN = 64

abbrev pub CHUNK_LEN : ℕ
CHUNK_LEN = 1024

-- ---- flags
abbrev pub CHUNK_START : ℕ
CHUNK_START = 1

abbrev pub CHUNK_END : ℕ
CHUNK_END = 2

abbrev pub PARENT : ℕ
PARENT = 4

abbrev pub ROOT : ℕ
ROOT = 8

-- ---- a chunk

-- the words of the block that a list of bytes starts with; past the list's end the bytes are 0
abbrev pub block_words : List ℕ → List ℕ
block_words s =
    map (λ (i : ℕ). word_at i s)
    (0 ∷ 4 ∷ 8 ∷ 12 ∷ 16 ∷ 20 ∷ 24 ∷ 28 ∷ 32 ∷ 36 ∷ 40 ∷ 44 ∷ 48 ∷ 52 ∷ 56 ∷ 60 ∷ [])

-- the flag of a chunk's block number k
abbrev pub start_flag : ℕ → ℕ
start_flag zero = CHUNK_START
start_flag (suc k) = 0

-- the chaining value after the first k blocks, all of them whole; t is the chunk's number
unfoldable pub after : ℕ → List ℕ → ℕ → List ℕ
after zero s t = IV
after (suc k) s t = compress (after k s t) (block_words (drop (BLOCK_LEN * k) s)) t BLOCK_LEN (start_flag k)

-- the chaining value of chunk t, with the flags f besides its own: the last block has what is left, at least one byte unless s is empty
unfoldable pub chunk : List ℕ → ℕ → ℕ → List ℕ
chunk s t f =
    let k = (length s - 1) / BLOCK_LEN in
    compress (after k s t) (block_words (drop (BLOCK_LEN * k) s)) t (length s - BLOCK_LEN * k) (start_flag k + CHUNK_END + f)

-- ---- a parent

-- the chaining value of a node over the nodes l and r, with the flags f besides its own
unfoldable pub parent : List ℕ → List ℕ → ℕ → List ℕ
parent l r f = compress IV (words8 l ++ words8 r) 0 BLOCK_LEN (PARENT + f)
