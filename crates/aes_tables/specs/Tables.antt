-- AES's tables: what a byte at place q of a column adds to it, SubBytes and MixColumns in one.
use Rattle.std.specs.Prelude.{List, ℕ, ◌/◌, ◌%◌, eqb}
use Rattle.lists.specs.Pick.{pick}
use Rattle.lists.specs.Over.{tab}
use Rattle.fips197.specs.Field.{product}
use Rattle.fips197.specs.Sbox.{SBox}
use Rattle.fips197.specs.Cipher.{matrix}
use Rattle.aes_tables.specs.Word.{column4}

-- column q of the matrix times s; s itself for q = 4
unfoldable pub entry_of : ℕ → ℕ → ℕ
entry_of q s =
    pick (eqb q 4) s (column4 (product (matrix 0 q) s) (product (matrix 1 q) s) (product (matrix 2 q) s) (product (matrix 3 q) s))

-- entry 256q + b is for the byte b at place q
unfoldable pub tables : List ℕ
tables = tab 1280 (λ i. entry_of (i / 256) (SBox (i % 256)))
