-- KeyExpansion (FIPS 197, 5.2) for keys of 128 bits: 44 words of four bytes, w[i] being bytes 4i to 4i + 3.
use Rattle.std.specs.Prelude.{List, ◌++◌, ℕ, zero, suc, ◌+◌, ◌-◌, ◌*◌, ◌/◌, ◌%◌, get_or, eqb}
use Rattle.std.specs.Int.Bits.{bit_xor}
use Rattle.lists.specs.Pick.{pick}
use Rattle.lists.specs.Over.{tab}
use Rattle.fips197.specs.Field.{product}
use Rattle.fips197.specs.Sbox.{SBox}

-- byte r of word i
abbrev pub word_byte : List ℕ → ℕ → ℕ → ℕ
word_byte w i r = get_or w (4 * i + r) 0

-- x^k in the field, x being {02}
unfoldable pub power : ℕ → ℕ
power zero = 1
power (suc k) = product 2 (power k)

-- byte r of the round constant Rcon[j]: x^(j - 1), {00}, {00}, {00}
unfoldable pub rcon : ℕ → ℕ → ℕ
rcon j r = pick (eqb r 0) (power (j - 1)) 0

-- byte r of SubWord(RotWord(w[i]))
abbrev pub sub_rot : List ℕ → ℕ → ℕ → ℕ
sub_rot w i r = SBox (word_byte w i ((r + 1) % 4))

-- byte r of temp for w[i]: w[i - 1]; where i is a multiple of 4, SubWord(RotWord(w[i - 1])) with Rcon[i / 4] added
unfoldable pub temp : List ℕ → ℕ → ℕ → ℕ
temp w i r = pick (eqb (i % 4) 0) (bit_xor (sub_rot w (i - 1) r) (rcon (i / 4) r)) (word_byte w (i - 1) r)

-- w[i] of those before it: w[i - 4] with temp added
unfoldable pub next : List ℕ → ℕ → List ℕ
next w i = tab 4 (λ r. bit_xor (word_byte w (i - 4) r) (temp w i r))

-- the key, and the m words behind it
unfoldable pub words : List ℕ → ℕ → List ℕ
words key zero = key
words key (suc m) = words key m ++ next (words key m) (4 + m)

unfoldable pub key_expansion : List ℕ → List ℕ
key_expansion key = words key 40
