-- A column of AES's State, and a word of its keys, as a number: its first byte is lowest.
use Rattle.std.specs.Prelude.{List, [], ◌∷◌, ℕ, ◌+◌, ◌*◌, ◌/◌, ◌%◌}

unfoldable pub column4 : ℕ → ℕ → ℕ → ℕ → ℕ
column4 b0 b1 b2 b3 = ((b3 * 256 + b2) * 256 + b1) * 256 + b0

-- and back
unfoldable pub bytes4 : ℕ → List ℕ
bytes4 w = w % 256 ∷ w / 0x100 % 256 ∷ w / 0x1_0000 % 256 ∷ w / 0x100_0000 % 256 ∷ []
