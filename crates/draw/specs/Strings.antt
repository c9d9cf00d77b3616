-- The r strings, lent or drawn (document 02, order 4): "Hosts may still lend r; one Block alone is a seed."
use Rattle.std.specs.Prelude.{Bool, List, ℕ, ◌/◌, ◌%◌, ◌^◌, length, eqb}
use Rattle.lists.specs.Pick.{pick}
use Rattle.lists.specs.Over.{tab, cat}
use Rattle.fips197.specs.Cipher.{aes128}

-- a list of that length is a seed
unfoldable pub seed? : ℕ → Bool
seed? len = eqb len 16

-- "in the order and byte order of `src/crypto/aes_rng.rs`": c as 128 bits, low byte first
unfoldable pub counter : ℕ → List ℕ
counter c = tab 16 (λ k. c / 256 ^ k % 256)

-- Block number c, from 0, of those that are drawn from a seed: AES-128 under the seed
unfoldable pub drawn : List ℕ → ℕ → List ℕ
drawn seed c = aes128 seed (counter c)

-- all strings, of `count` Blocks together: as they are lent, or drawn, one string after another
unfoldable pub strings : ℕ → List ℕ → List ℕ
strings count r = pick (seed? (length r)) (cat count (drawn r)) r
