-- The words of an expanded key as the code has them, numbers whose first byte is lowest.
use Rattle.std.specs.Prelude.{List, ℕ, ◌+◌, ◌-◌, ◌/◌, ◌%◌, get_or, eqb}
use Rattle.std.specs.Int.Bits.{bit_xor}
use Rattle.lists.specs.Pick.{pick}
use Rattle.lists.specs.Over.{cat}
use Rattle.fips197.specs.Sbox.{SBox}
use Rattle.fips197.specs.Key.{power}
use Rattle.aes_tables.specs.Word.{column4, bytes4}

-- the bytes of the first n words
unfoldable pub words_bytes : ℕ → List ℕ → List ℕ
words_bytes n w = cat n (λ i. bytes4 (get_or w i 0))

-- the word of the four bytes at `at`
unfoldable pub word_at : List ℕ → ℕ → ℕ
word_at s at = column4 (get_or s at 0) (get_or s (at + 1) 0) (get_or s (at + 2) 0) (get_or s (at + 3) 0)

-- SubWord(RotWord(w))
unfoldable pub sub_rot_of : ℕ → ℕ
sub_rot_of w = column4 (SBox (w / 0x100 % 256)) (SBox (w / 0x1_0000 % 256)) (SBox (w / 0x100_0000 % 256)) (SBox (w % 256))

-- w[i]
unfoldable pub next_of : List ℕ → ℕ → ℕ
next_of w i =
    bit_xor (get_or w (i - 4) 0)
    (pick (eqb (i % 4) 0) (bit_xor (sub_rot_of (get_or w (i - 1) 0)) (power (i / 4 - 1))) (get_or w (i - 1) 0))
