-- The S-box is made by its rule: computed once over all entries, with the inverse of b worked out from the entry. Its entries are bytes.
use Rattle.std.specs.Prelude.{◌≡◌, refl, Bool, true, false, ◌&&◌, ℕ, ◌+◌, ◌%◌, ◌^◌, ◌<◌, ◌≤◌, length, ltb, eqb}
use Rattle.std.proofs.Common.{sym, ap, ◌∙◌, arith, ltb-true, ltb-false, eqb-true, eq-eqb, ne_eqb}
use Rattle.std.proofs.Math.ListN.{get_or-eq_default}
use Rattle.lists.specs.All.{all_of, of-all, and_both}
use Rattle.lists.specs.Pick.{pick, by-eq}
use Rattle.algebra.specs.Group.{bits, numbers, sel, odd}
use Rattle.algebra.specs.Sum.{sum}
use Rattle.fips197.specs.Field.{times, mod_m, product}
use Rattle.fips197.proofs.FieldLaws.{product-one, product-byte, product-comm, product-assoc}
use Rattle.fips197.specs.Sbox.{Inverse, digit, affine_at, affine, sbox, SBox}

-- ---- entries are bytes
small : all_of 256 (λ b. ltb (SBox b) 256) ≡ true
unfolding all_of sbox
small = refl

sbox-length : length sbox ≡ 256
unfolding sbox
sbox-length = refl

pub sbox-byte : (b : ℕ) → SBox b < 256
sbox-byte b = go (ltb b 256) refl
  where
    go : (t : Bool) → ltb b 256 ≡ t → SBox b < 256
    go true e = ltb-true (SBox b) 256 (of-all 256 (λ b. ltb (SBox b) 256) small b (ltb-true b 256 e))
    go false e =
        let h : length sbox ≤ b = omega (arith, sbox-length, ltb-false b 256 e) in
        omega (arith, get_or-eq_default sbox 0 h)

pub product-sbox : (m b : ℕ) → m < 4 → product m (SBox b) < 256
product-sbox m b h = product-byte m (SBox b) h (sbox-byte b)

-- ---- the rule
-- the affine transformation undone (5.3.2): digit i of the result is b_(i+2) + b_(i+5) + b_(i+7) + d_i, where d is {05}
unfoldable undone_at : ℕ → ℕ → Bool
undone_at b i = bits.op (bits.op (bits.op (digit b ((i + 2) % 8)) (digit b ((i + 5) % 8))) (digit b ((i + 7) % 8))) (digit 0x05 i)

unfoldable undone : ℕ → ℕ
undone b = sum numbers 8 (λ i. sel numbers (undone_at b i) (2 ^ i))

-- c is the inverse of b, and s is made of it
made : ℕ → ℕ → ℕ → Bool
made b c s = ltb c 256 && pick (eqb b 0) (eqb c 0) (eqb (product b c) 1) && eqb s (affine c)

all_made : all_of 256 (λ b. made b (undone (SBox b)) (SBox b)) ≡ true
unfolding all_of odd sum times mod_m product affine_at affine sbox undone_at undone made
all_made = refl

rule_of_lem : (b c s : ℕ) → made b c s ≡ true → Inverse b c × (s ≡ affine c)
unfolding made
rule_of_lem b c s h =
    let p = and_both (ltb c 256 && pick (eqb b 0) (eqb c 0) (eqb (product b c) 1)) (eqb s (affine c)) h in
    let q = and_both (ltb c 256) (pick (eqb b 0) (eqb c 0) (eqb (product b c) 1)) p.0 in
    let of : (t : Bool) → eqb b 0 ≡ t → pick t (eqb c 0) (eqb (product b c) 1) ≡ true =
    λ t e. sym (ap (λ t. pick t (eqb c 0) (eqb (product b c) 1)) e) ∙ q.1 in (
      record {
        byte = ltb-true c 256 q.0;
        none = λ e. eqb-true c 0 (of true (eq-eqb b 0 e));
        one = λ n. eqb-true (product b c) 1 (of false (ne_eqb b 0 n));
      },
      eqb-true s (affine c) p.1,
    )

pub sbox-rule : (b : ℕ) → b < 256 → (c : ℕ) × Inverse b c × (SBox b ≡ affine c)
sbox-rule b h =
    let c : ℕ = undone (SBox b) in
    let r = rule_of_lem b c (SBox b) (of-all 256 (λ b. made b (undone (SBox b)) (SBox b)) all_made b h) in
    (c, r.0, r.1)

-- the inverse is one only, so the rule makes one table: c = c • (b • d) = (c • b) • d = d
pub inverse-unique : (b c d : ℕ) → b < 256 → Inverse b c → Inverse b d → c ≡ d
inverse-unique b c d h ic id = by-eq (c ≡ d) b 0 (λ e. ic.none e ∙ sym (id.none e)) (λ n. go (ic.one n) (id.one n))
  where
    go : product b c ≡ 1 → product b d ≡ 1 → c ≡ d
    go pc pd =
        sym (product-one c ic.byte) ∙ product-comm 1 c (omega arith) ic.byte ∙ ap (product c) (sym pd)
        ∙ sym (product-assoc c b d ic.byte h id.byte) ∙ ap (λ x. product x d) (product-comm c b ic.byte h ∙ pc)
        ∙ product-one d id.byte
