-- What is read in the tables: the S-box, and the bytes of what a byte adds to its column.
use Rattle.std.specs.Prelude.{◌≡◌, Bool, ℕ, zero, suc, ◌+◌, ◌-◌, ◌*◌, ◌%◌, ◌<◌}
use Rattle.std.proofs.Math.Path.{ap}
use Rattle.std.proofs.Common.{◌∙◌, arith, ne_eqb}
use mathlib.Core.List.{List, [], ◌∷◌}
use Rattle.std.proofs.Math.ListN.{get_or}
use Rattle.lists.specs.Pick.{pick}
use Rattle.lists.specs.Over.{tab}
use Rattle.fips197.specs.Field.{product}
use Rattle.fips197.specs.Sbox.{SBox}
use Rattle.fips197.proofs.SboxLaws.{product-sbox}
use Rattle.fips197.specs.Cipher.{matrix}
use Rattle.aes_tables.specs.Word.{column4, bytes4}
use Rattle.aes_tables.specs.Tables.{entry_of, tables}
use Rattle.aes_tables.specs.WordLaws.{bytes4-column4}
use Rattle.aes_tables.specs.TableLaws.{table_at}

pub sbox-at : (t : List ℕ) (b : ℕ) → t ≡ tables → b < 256 → get_or t (1024 + b) 0 ≡ SBox b
unfolding entry_of
sbox-at t b e l = ap (λ (t : List ℕ). get_or t (1024 + b) 0) e ∙ table_at 4 b (omega arith) l

-- column q of the matrix times s
unfoldable pub mixed : ℕ → ℕ → List ℕ
mixed q s = tab 4 (λ r. product (matrix r q) s)

matrix-small : (r q : ℕ) → matrix r q < 4
unfolding matrix
matrix-small r q = at ((q + (4 - r)) % 4)
  where
    at : (i : ℕ) → get_or (2 ∷ 3 ∷ 1 ∷ 1 ∷ []) i 0 < 4
    at zero = omega arith
    at (suc zero) = omega arith
    at (suc (suc zero)) = omega arith
    at (suc (suc (suc zero))) = omega arith
    at (suc (suc (suc (suc i)))) = omega arith

pub bytes4-entry : (q b : ℕ) → q < 4 → b < 256 → bytes4 (get_or tables (q * 256 + b) 0) ≡ mixed q (SBox b)
unfolding entry_of mixed tab
bytes4-entry q b h l =
    let s : ℕ = SBox b in
    let k : ℕ = column4 (product (matrix 0 q) s) (product (matrix 1 q) s) (product (matrix 2 q) s) (product (matrix 3 q) s) in
    let small : (r : ℕ) → product (matrix r q) s < 256 = λ r. product-sbox (matrix r q) b (matrix-small r q) in
    ap bytes4 (table_at q b (omega arith) l ∙ ap (λ (t : Bool). pick t s k) (ne_eqb q 4 (omega arith)))
    ∙ bytes4-column4 _ _ _ _ (small 0) (small 1) (small 2) (small 3)
