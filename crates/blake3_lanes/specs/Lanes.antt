-- BLAKE3 of Blocks that lie side by side, and what a lane of a window does for one of them.
use Rattle.std.specs.Prelude.{ℕ, ◌*◌, ◌/◌, ◌%◌, ◌^◌, List, [], ◌∷◌}
use Rattle.block.specs.declared.Block.{Block}
use Rattle.block.specs.Block.{block_at, bytes_of}
use Rattle.blake3_core.specs.Compress.{compress, IV}
use Rattle.blake3.specs.declared.Digest.{Digest}
use Rattle.blake3.specs.Tree.{hash}
use Rattle.blake3_lanes.specs.declared.Words.{Words}

-- how many Blocks are hashed side by side
abbrev pub LANES : ℕ
LANES = 64

-- the hash of Block t
abbrev pub hash_at : List ℕ → ℕ → List ℕ
hash_at s t = hash (bytes_of (block_at s (t * 16)))

-- ---- a lane

abbrev pub words_of : Block → Words
words_of b = record { 0 = b.0 % 2 ^ 32; 1 = b.0 / 2 ^ 32; 2 = b.1 % 2 ^ 32; 3 = b.1 / 2 ^ 32 }

unfoldable pub words_at : List ℕ → ℕ → Words
words_at s t = words_of (block_at s (t * 16))

abbrev pub no_words : Words
no_words = record { 0 = 0; 1 = 0; 2 = 0; 3 = 0 }

-- the message is these words, and 0 behind them; its length is 16 bytes, its flags say that it is the whole tree
abbrev pub padded : Words → List ℕ
padded w = w.0 ∷ w.1 ∷ w.2 ∷ w.3 ∷ 0 ∷ 0 ∷ 0 ∷ 0 ∷ 0 ∷ 0 ∷ 0 ∷ 0 ∷ 0 ∷ 0 ∷ 0 ∷ 0 ∷ []

unfoldable pub digest_of : Words → Digest
digest_of w = record { 0 = compress IV (padded w) 0 16 11 }
