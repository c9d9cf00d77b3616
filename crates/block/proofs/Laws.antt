-- What the code of this crate computes, over plain variables.
use Rattle.std.specs.Prelude.{◌≡◌, ◌++◌, ◌+◌, ◌*◌, ◌<◌, ◌≤◌}
use Rattle.lists.specs.Kit.{refl, ap, ◌∙◌, List, Bool, true, false, ℕ, zero, suc, arith}
use Rattle.lists.specs.Kit.{length, get_or, drop, set}
use Prim.Native.Nat.{◌^◌, ◌%◌, min}
use native.Mathlib.Nat.{mul-zero, mul-one, mod-lt, zero-lt-suc}
use lib.ListN.{length-set, get_or-eq_default}
use lib.Bits.{bit_xor, xor_zero_r}
use lib.Dec.{eqb}
use mir.Val.{bool_byte}
use Rattle.lists.specs.Over.{tab, tab-zero, tab-step, length-tab, over-get}
use Rattle.lists.specs.Tab.{tab-rest}
use Rattle.algebra.specs.Group.{bit_of, odd, sel}
use Rattle.block.specs.Block.{Block, xor_at, xor_inplace, zero_of}
use Rattle.block.specs.Group.{blocks}

-- ---- a word times a bit
pub mul-bit : (w : ℕ) (b : Bool) → w < 2 ^ 64 → w * bool_byte b < 2 ^ 64
mul-bit w true h = rw mul-one h
mul-bit w false h = rw mul-zero (omega arith)

pub const-mul : (a : Block) (b : Bool) → ◌≡◌ {A = Block} (record { 0 = a.0 * bool_byte b; 1 = a.1 * bool_byte b }) (sel blocks b a)
unfolding blocks zero_of
const-mul a true = λ i. record { 0 = mul-one a.0 i; 1 = mul-one a.1 i }
const-mul a false = λ i. record { 0 = mul-zero a.0 i; 1 = mul-zero a.1 i }

-- ---- the lowest digit
digit-bit : (n : ℕ) → n < 2 → eqb n 1 ≡ bit_of n
digit-bit zero h = refl
digit-bit (suc zero) h = refl
digit-bit (suc (suc n)) h = absurd (omega arith)

pub test-odd : (n : ℕ) → eqb (n % 2) 1 ≡ odd n
unfolding odd
test-odd n = digit-bit (n % 2) (mod-lt n (zero-lt-suc 1))

-- ---- `xor_inplace`: d is a with b added to its first i bytes
pub record Added (a b d : List ℕ) (i : ℕ) : Type 0 where
  pub here : d ≡ tab i (xor_at a b) ++ drop i a
  pub same : length d ≡ length a

pub added_none : (a b : List ℕ) → Added a b a 0
added_none a b = record { here = tab-zero (xor_at a b) a; same = refl }

pub added-byte : (a b d : List ℕ) (i : ℕ) → i < length a → Added a b d i → Added a b (set d i (bit_xor (get_or d i 0) (get_or b i 0))) (i + 1)
added-byte a b d i h w = record {
  here = rw (w.here, over-get (tab i (xor_at a b)) a i 0 (length-tab i (xor_at a b)) h) (tab-step i (xor_at a b) a h);
  same = length-set d i _ ∙ w.same;
}

-- as far as both go
pub added-all : (a b d : List ℕ) (i : ℕ) → i ≡ min (length a) (length b) → Added a b d i → d ≡ xor_inplace a b
unfolding xor_inplace
added-all a b d i h w =
    w.here
    ∙ tab-rest i (xor_at a b) a 0 (omega arith)
    (λ j l k. ap (bit_xor (get_or a j 0)) (get_or-eq_default b 0 (let n : length b ≤ j = omega arith in n)) ∙ xor_zero_r (get_or a j 0))
