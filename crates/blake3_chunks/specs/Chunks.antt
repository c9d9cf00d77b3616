-- Four whole chunks that lie side by side: the chaining value of each, the node over them, and what a lane does for one of them.
use Rattle.std.specs.Prelude.{ℕ, ◌+◌, ◌-◌, ◌*◌, ◌/◌, List, [], drop}
use Rattle.lists.specs.Sect.{get}
use Rattle.blake3_core.specs.Compress.{state, rounds, fold}
use Rattle.blake3_node.specs.Node.{BLOCK_LEN, CHUNK_LEN, block_words, chunk, parent}
use Rattle.blake3_chunks.specs.declared.Node.{Node}

-- how many chunks are hashed side by side
abbrev pub LANES : ℕ
LANES = 4

abbrev pub WINDOW : ℕ
WINDOW = LANES * CHUNK_LEN

-- the last block of a whole chunk
abbrev pub LAST : ℕ
LAST = CHUNK_LEN / BLOCK_LEN - 1

-- chunk j of s
abbrev pub chunk_of : List ℕ → ℕ → List ℕ
chunk_of s j = get (CHUNK_LEN * j) CHUNK_LEN s

-- its chaining value, where the first has number t
abbrev pub chunk_at : List ℕ → ℕ → ℕ → List ℕ
chunk_at s t j = chunk (chunk_of s j) (t + j) 0

-- the node over four of them, with the flags f
unfoldable pub four : List ℕ → ℕ → ℕ → List ℕ
four s t f = parent (parent (chunk_at s t 0) (chunk_at s t 1) 0) (parent (chunk_at s t 2) (chunk_at s t 3) 0) f

-- ---- a lane

abbrev pub node : List ℕ → Node
node h = record { 0 = h }

abbrev pub no_node : Node
no_node = node []

unfoldable pub chained : List ℕ → ℕ → ℕ → Node
chained s t j = node (chunk_at s t j)

-- behind block k of the chunk s, a whole one; its number is given in two words
unfoldable pub pressed : Node → List ℕ → ℕ → ℕ → ℕ → ℕ → Node
pressed n s k low high f = node (fold (rounds 7 (block_words (drop (BLOCK_LEN * k) s)) (state n.0 low high BLOCK_LEN f)))
