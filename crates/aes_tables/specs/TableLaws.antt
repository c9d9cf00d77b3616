-- What the tables hold, entry by entry; and what `entry` makes at each place, of {02} • s and {03} • s.
use Rattle.std.specs.Prelude.{◌≡◌, refl, [], ◌∷◌, ℕ, ◌+◌, ◌*◌, ◌/◌, ◌%◌, ◌<◌, get_or}
use Rattle.std.proofs.Common.{sym, ap, ap₂, ◌∙◌, arith}
use Rattle.std.proofs.Math.Arith.{digits_div, digits_mod}
use Rattle.std.specs.Int.{w32, from_le_bytes}
use Rattle.std.specs.Int.Bits.{bit_xor}
use Rattle.lists.specs.Over.{get_or-tab}
use Rattle.fips197.specs.Field.{product}
use Rattle.fips197.specs.Sbox.{SBox}
use Rattle.fips197.specs.Cipher.{matrix}
use Rattle.fips197.proofs.FieldLaws.{product-one, product-three}
use Rattle.aes_tables.specs.Word.{column4}
use Rattle.aes_tables.specs.Tables.{entry_of, tables}
use Rattle.aes_tables.specs.WordLaws.{le-column4}

pub table_at : (q b : ℕ) → q < 5 → b < 256 → get_or tables (q * 256 + b) 0 ≡ entry_of q (SBox b)
unfolding tables
table_at q b hq hb =
    get_or-tab 1280 (q * 256 + b) (λ i. entry_of (i / 256) (SBox (i % 256))) 0 (omega arith)
    ∙ ap₂ (λ p s. entry_of p (SBox s)) (digits_div q hb) (digits_mod q hb)

columns : {a b c d a' b' c' d' : ℕ} → a ≡ a' → b ≡ b' → c ≡ c' → d ≡ d'
    → from_le_bytes w32 (a ∷ b ∷ c ∷ d ∷ []) ≡ column4 a' b' c' d'
columns {a} {b} {c} {d} p q r t = le-column4 a b c d ∙ (λ i. column4 (p i) (q i) (r i) (t i))

pub entry-four : (s : ℕ) → s ≡ entry_of 4 s
unfolding entry_of
entry-four s = refl

module _ (s d : ℕ) (h : s < 256) (two : d ≡ product 2 s) where
  one : s ≡ product 1 s
  one = sym (product-one s h)

  three : bit_xor d s ≡ product 3 s
  three = ap (λ x. bit_xor x s) two ∙ sym (product-three s h)

  pub entry_zero : from_le_bytes w32 (d ∷ s ∷ s ∷ bit_xor d s ∷ []) ≡ entry_of 0 s
  unfolding entry_of matrix
  entry_zero = columns two one one three

  pub entry-one : from_le_bytes w32 (bit_xor d s ∷ d ∷ s ∷ s ∷ []) ≡ entry_of 1 s
  unfolding entry_of matrix
  entry-one = columns three two one one

  pub entry-two : from_le_bytes w32 (s ∷ bit_xor d s ∷ d ∷ s ∷ []) ≡ entry_of 2 s
  unfolding entry_of matrix
  entry-two = columns one three two one

  pub entry-three : from_le_bytes w32 (s ∷ s ∷ bit_xor d s ∷ d ∷ []) ≡ entry_of 3 s
  unfolding entry_of matrix
  entry-three = columns one one three two
