-- Blocks and words as numbers, and their bytes: byte 0 is lowest. XOR of byte strings, byte by byte.
use Rattle.std.specs.Prelude.{ℕ, ◌+◌, ◌*◌, ◌/◌, ◌%◌, ◌^◌, ◌<◌, Bool, ◌&&◌, List, [], ◌∷◌, ◌++◌, length, get_or, eqb}
use Rattle.std.specs.Int.Bits.{bit_xor}
use Rattle.lists.specs.Over.{tab}
pub use Rattle.block.specs.declared.Block.{Block}

-- ---- numbers of bytes

-- eight bytes as a number, low byte first
abbrev pub le_of : ℕ → ℕ → ℕ → ℕ → ℕ → ℕ → ℕ → ℕ → ℕ
le_of b0 b1 b2 b3 b4 b5 b6 b7 = ((((((b7 * 256 + b6) * 256 + b5) * 256 + b4) * 256 + b3) * 256 + b2) * 256 + b1) * 256 + b0

-- the 8 bytes at `at`
unfoldable pub word_at : List ℕ → ℕ → ℕ
word_at s at =
    le_of (get_or s at 0) (get_or s (at + 1) 0) (get_or s (at + 2) 0) (get_or s (at + 3) 0) (get_or s (at + 4) 0) (get_or s (at + 5) 0)
    (get_or s (at + 6) 0) (get_or s (at + 7) 0)

-- the 16 bytes at `at`: the low word, then the high word
unfoldable pub block_at : List ℕ → ℕ → Block
block_at s at = record { 0 = word_at s at; 1 = word_at s (at + 8) }

-- both words fit 64 bits, as in the code
pub record Small (b : Block) : Type 0 where
  pub low : b.0 < 2 ^ 64
  pub high : b.1 < 2 ^ 64

-- ---- bytes of numbers

-- a number as 8 bytes, low byte first
unfoldable pub le8 : ℕ → List ℕ
le8 w =
    w % 256 ∷ w / 0x100 % 256 ∷ w / 0x1_0000 % 256 ∷ w / 0x100_0000 % 256 ∷ w / 0x1_0000_0000 % 256 ∷ w / 0x100_0000_0000 % 256
    ∷ w / 0x1_0000_0000_0000 % 256 ∷ w / 0x100_0000_0000_0000 % 256 ∷ []

unfoldable pub bytes_of : Block → List ℕ
bytes_of b = le8 b.0 ++ le8 b.1

-- ---- XOR

unfoldable pub xor_of : Block → Block → Block
xor_of a b = record { 0 = bit_xor a.0 b.0; 1 = bit_xor a.1 b.1 }

unfoldable pub zero_of : Block
zero_of = record { 0 = 0; 1 = 0 }

unfoldable pub eq_block : Block → Block → Bool
eq_block a b = eqb a.0 b.0 && eqb a.1 b.1

-- `xor_inplace`: past b's end get_or gives 0, so what a has beyond stays
abbrev pub xor_at : List ℕ → List ℕ → ℕ → ℕ
xor_at a b i = bit_xor (get_or a i 0) (get_or b i 0)

unfoldable pub xor_inplace : List ℕ → List ℕ → List ℕ
xor_inplace a b = tab (length a) (xor_at a b)
