-- The State as the code has it: four columns, and what a round makes of them by tables.
use Rattle.std.specs.Prelude.{List, ◌++◌, ℕ, ◌+◌, ◌*◌, ◌/◌, ◌%◌, get_or}
use Rattle.std.specs.Int.Bits.{bit_xor}
use Rattle.block.specs.declared.Block.{Block}
use Rattle.fips197.specs.Sbox.{SBox}
use Rattle.aes_tables.specs.Word.{column4, bytes4}
use Rattle.aes.specs.declared.Columns.{Columns}

-- its bytes
unfoldable pub state_of : Columns → List ℕ
state_of s = bytes4 s.0 ++ (bytes4 s.1 ++ (bytes4 s.2 ++ bytes4 s.3))

-- as a Block, and back
unfoldable pub block_of : Columns → Block
block_of s = record { 0 = s.1 * 0x1_0000_0000 + s.0 % 0x1_0000_0000; 1 = s.3 * 0x1_0000_0000 + s.2 % 0x1_0000_0000 }

unfoldable pub columns_of : Block → Columns
columns_of x = record { 0 = x.0 % 0x1_0000_0000; 1 = x.0 / 0x1_0000_0000; 2 = x.1 % 0x1_0000_0000; 3 = x.1 / 0x1_0000_0000 }

-- a column after a round, by the tables t
unfoldable pub column_of : List ℕ → ℕ → ℕ → ℕ → ℕ → ℕ → ℕ
column_of t a b c d k =
    bit_xor (bit_xor (bit_xor (bit_xor (get_or t (a % 256) 0) (get_or t (256 + b / 0x100 % 256) 0)) (get_or t (512 + c / 0x1_0000 % 256) 0))
    (get_or t (768 + d / 0x100_0000 % 256) 0)) k

-- a column after the last round
unfoldable pub last_of : ℕ → ℕ → ℕ → ℕ → ℕ → ℕ
last_of a b c d k =
    bit_xor (column4 (SBox (a % 256)) (SBox (b / 0x100 % 256)) (SBox (c / 0x1_0000 % 256)) (SBox (d / 0x100_0000 % 256))) k
