-- Blocks are an XOR group; a test of two Blocks.
use Rattle.std.specs.Prelude.{◌≡◌, refl, Bool, true, false, ◌&&◌, eqb}
use Rattle.std.proofs.Common.{sym, ap, ap₂, ◌∙◌, eqb-true, eq-eqb}
use Rattle.std.proofs.lemmas.Nat.{xor_comm}
use Rattle.std.specs.Int.Bits.{xor_self, xor_zero_l}
use Rattle.lists.specs.All.{true-false}
use Rattle.algebra.specs.Xor.{xor_assoc}
use Rattle.algebra.specs.Group.{XorGroup}
use Rattle.block.specs.Block.{Block, xor_of, zero_of, eq_block}

pub block-assoc : (a b c : Block) → xor_of (xor_of a b) c ≡ xor_of a (xor_of b c)
unfolding xor_of
block-assoc a b c i = record { 0 = xor_assoc a.0 b.0 c.0 i; 1 = xor_assoc a.1 b.1 c.1 i }

pub block-comm : (a b : Block) → xor_of a b ≡ xor_of b a
unfolding xor_of
block-comm a b i = record { 0 = xor_comm a.0 b.0 i; 1 = xor_comm a.1 b.1 i }

pub block-unit : (a : Block) → xor_of zero_of a ≡ a
unfolding xor_of zero_of
block-unit a i = record { 0 = xor_zero_l a.0 i; 1 = xor_zero_l a.1 i }

pub block-self : (a : Block) → xor_of a a ≡ zero_of
unfolding xor_of zero_of
block-self a i = record { 0 = xor_self a.0 i; 1 = xor_self a.1 i }

unfoldable pub blocks : XorGroup Block
blocks = record { op = xor_of; nil = zero_of; assoc = block-assoc; comm = block-comm; unit = block-unit; self = block-self }

-- what `equals` tests
pub block-eq : (a b : Block) → eq_block a b ≡ true → a ≡ b
unfolding eq_block
block-eq a b h = go (eqb a.0 b.0) refl (eqb a.1 b.1) refl h
  where
    go : (s : Bool) → eqb a.0 b.0 ≡ s → (t : Bool) → eqb a.1 b.1 ≡ t → (s && t) ≡ true → a ≡ b
    go true e true f h = λ i. record { 0 = eqb-true a.0 b.0 e i; 1 = eqb-true a.1 b.1 f i }
    go true e false f h = absurd (true-false (sym h))
    go false e t f h = absurd (true-false (sym h))

pub eq_block_lem : (a b : Block) → a ≡ b → eq_block a b ≡ true
unfolding eq_block
eq_block_lem a b e = ap₂ ◌&&◌ (eq-eqb a.0 b.0 (ap (λ (x : Block). x.0) e)) (eq-eqb a.1 b.1 (ap (λ (x : Block). x.1) e))

pub block-ne : (a b : Block) → eq_block a b ≡ false → a ≡ b → ⊥
block-ne a b h e = true-false (sym (eq_block_lem a b e) ∙ h)
