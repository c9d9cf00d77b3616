-- Columns and their bytes: there and back; XOR of columns is XOR of their bytes.
use Rattle.std.specs.Prelude.{◌≡◌, refl, List, [], ◌∷◌, ℕ, ◌+◌, ◌*◌, ◌/◌, ◌%◌, ◌^◌, ◌<◌, length, get_or}
use Rattle.std.proofs.Common.{ap, ◌∙◌, mod-eq_of_lt, arith}
use Rattle.std.specs.Int.{w32, from_le_bytes}
use Rattle.std.specs.Int.Bits.{bit_xor}
use Rattle.std.proofs.lemmas.Nat.{xor_shr, xor_mod}
use Rattle.lists.specs.Over.{tab}
use Rattle.aes_tables.specs.Word.{column4, bytes4}

pub length-bytes4 : (w : ℕ) → length (bytes4 w) ≡ 4
unfolding bytes4
length-bytes4 w = refl

pub bytes4-tab : (w : ℕ) → bytes4 w ≡ tab 4 (λ r. get_or (bytes4 w) r 0)
unfolding bytes4 tab
bytes4-tab w = refl

-- ---- XOR of four bytes
unfoldable pub xor4 : List ℕ → List ℕ → List ℕ
xor4 a b = tab 4 (λ r. bit_xor (get_or a r 0) (get_or b r 0))

-- byte k of the XOR of two numbers
byte-xor : (u v k : ℕ) → bit_xor u v / 2 ^ k % 2 ^ 8 ≡ bit_xor (u / 2 ^ k % 2 ^ 8) (v / 2 ^ k % 2 ^ 8)
byte-xor u v k = ap (λ x. x % 2 ^ 8) (xor_shr u v k) ∙ xor_mod (u / 2 ^ k) (v / 2 ^ k) 8

pub bytes4-xor : (u v : ℕ) → bytes4 (bit_xor u v) ≡ xor4 (bytes4 u) (bytes4 v)
unfolding bytes4 xor4 tab
bytes4-xor u v = λ i. xor_mod u v 8 i ∷ byte-xor u v 8 i ∷ byte-xor u v 16 i ∷ byte-xor u v 24 i ∷ []

-- ---- four bytes as a column, and back
digit : (h b : ℕ) → b < 256 → (h * 256 + b) % 256 ≡ b
digit h b l = omega arith

pub bytes4-column4 : (b0 b1 b2 b3 : ℕ) → b0 < 256 → b1 < 256 → b2 < 256 → b3 < 256
    → bytes4 (column4 b0 b1 b2 b3) ≡ b0 ∷ b1 ∷ b2 ∷ b3 ∷ []
unfolding bytes4 column4
bytes4-column4 b0 b1 b2 b3 h0 h1 h2 h3 =
    let w : ℕ = ((b3 * 256 + b2) * 256 + b1) * 256 + b0 in
    let q1 : w / 0x100 ≡ (b3 * 256 + b2) * 256 + b1 = omega arith in
    let q2 : w / 0x1_0000 ≡ b3 * 256 + b2 = omega arith in
    let q3 : w / 0x100_0000 ≡ b3 = omega arith in
    let e1 : w / 0x100 % 256 ≡ b1 = ap (λ x. x % 256) q1 ∙ digit (b3 * 256 + b2) b1 h1 in
    let e2 : w / 0x1_0000 % 256 ≡ b2 = ap (λ x. x % 256) q2 ∙ digit b3 b2 h2 in
    let e3 : w / 0x100_0000 % 256 ≡ b3 = ap (λ x. x % 256) q3 ∙ mod-eq_of_lt h3 in
    λ i. digit ((b3 * 256 + b2) * 256 + b1) b0 h0 i ∷ e1 i ∷ e2 i ∷ e3 i ∷ []

-- as the library reads them
pub le-column4 : (b0 b1 b2 b3 : ℕ) → from_le_bytes w32 (b0 ∷ b1 ∷ b2 ∷ b3 ∷ []) ≡ column4 b0 b1 b2 b3
unfolding column4
le-column4 b0 b1 b2 b3 = omega arith

-- a column that is its first byte
pub bytes4-byte : (b : ℕ) → b < 256 → bytes4 b ≡ b ∷ 0 ∷ 0 ∷ 0 ∷ []
unfolding bytes4
bytes4-byte b h =
    let e0 : b % 256 ≡ b = omega arith in
    let e1 : b / 0x100 % 256 ≡ 0 = omega arith in
    let e2 : b / 0x1_0000 % 256 ≡ 0 = omega arith in
    let e3 : b / 0x100_0000 % 256 ≡ 0 = omega arith in
    λ i. e0 i ∷ e1 i ∷ e2 i ∷ e3 i ∷ []
