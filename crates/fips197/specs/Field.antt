-- The field of bytes, GF(2^8) (FIPS 197, 4): a byte is a polynomial over GF(2), its digit i the coefficient of x^i. Addition is XOR.
use Rattle.std.specs.Prelude.{ℕ, zero, suc, ◌+◌, ◌*◌, ◌/◌, ◌^◌}
use Rattle.std.specs.Int.Bits.{bit_xor}
use Rattle.lists.specs.Pick.{pick}
use Rattle.algebra.specs.Group.{numbers, sel, odd}
use Rattle.algebra.specs.Sum.{sum}

-- the product of two polynomials: b shifted to each digit of c that is 1
unfoldable pub times : ℕ → ℕ → ℕ
times b c = sum numbers 8 (λ i. sel numbers (odd (c / 2 ^ i)) (b * 2 ^ i))

-- m(x) is x^8 + x^4 + x^3 + x + 1
abbrev pub M : ℕ
M = 0x11b

-- a polynomial of degree below 8 + n, modulo m(x): from the highest digit down, m(x) is subtracted where the digit is 1
unfoldable pub mod_m : ℕ → ℕ → ℕ
mod_m zero p = p
mod_m (suc n) p = mod_m n (pick (odd (p / 2 ^ (8 + n))) (bit_xor p (M * 2 ^ n)) p)

-- b • c (4.2)
unfoldable pub product : ℕ → ℕ → ℕ
product b c = mod_m 7 (times b c)
