-- Digits: digit e of a number is `odd (x / 2 ^ e)`. Digits of a remainder, of a word's bytes, of XOR and AND, and their sum.
use Rattle.std.specs.Prelude.{◌≡◌, refl, List, ℕ, zero, suc, ◌+◌, ◌-◌, ◌*◌, ◌/◌, ◌%◌, ◌^◌, ◌<◌, ◌≤◌, min, length, get_or, drop}
use Rattle.std.proofs.Common.{sym, ap, ap₂, ◌∙◌, mod-lt, zero-lt-suc, div-one, one-add, add-one, arith, get_or-take, get_or-drop, shr-shr, shr_lt}
use Rattle.std.proofs.Math.Nat.{zero-div}
use Rattle.std.specs.Int.Bits.{bit_xor, bit_and, xor_add_and, and_step}
use Rattle.std.proofs.lemmas.Nat.{xor_shr, and_shr}
use Rattle.std.proofs.Math.Arith.{lt-one}
use Rattle.std.specs.Int.Count.{ones, ones_step}
use Rattle.std.proofs.Math.Pow.{field, mod-mod-pow}
use Rattle.lists.specs.Bytes.{Bytes}
use Rattle.algebra.specs.Group.{numbers, bits, addb, bit_of, sel, odd, num, odd-xor, num-odd}
use Rattle.algebra.specs.Sum.{sum, sum-ext, sum-cons}
use Rattle.block.specs.Block.{word_at, le8}
use Rattle.block.specs.Trip.{le8-word}

pub odd-mod : (x i : ℕ) → odd (x % 2 ^ (i + 1)) ≡ odd x
unfolding odd
odd-mod x i = ap bit_of (mod-mod-pow x i 1)

-- the low digits are not changed by a remainder
pub mod-digit : (x w e : ℕ) → e < w → odd (x % 2 ^ w / 2 ^ e) ≡ odd (x / 2 ^ e)
mod-digit x w e h =
    let i : ℕ = w - e - 1 in
    let q : i + 1 + e ≡ w = omega arith in
    ap (λ k. odd (x % 2 ^ k / 2 ^ e)) (sym q) ∙ ap odd (field x (i + 1) e) ∙ odd-mod (x / 2 ^ e) i

-- digit e of four digits, eight digits, .. of w
pub part-digit : (w k n e : ℕ) → e < n → odd (w / 2 ^ k % 2 ^ n / 2 ^ e) ≡ odd (w / 2 ^ (k + e))
part-digit w k n e h = mod-digit (w / 2 ^ k) n e h ∙ ap odd (shr-shr w k e)

-- byte i of a word
le8-byte : (w i : ℕ) → i < 8 → get_or (le8 w) i 0 ≡ w / 2 ^ (i * 8) % 2 ^ 8
unfolding le8
le8-byte w zero h = ap (λ x. x % 256) (sym (div-one w))
le8-byte w (suc zero) h = refl
le8-byte w (suc (suc zero)) h = refl
le8-byte w (suc (suc (suc zero))) h = refl
le8-byte w (suc (suc (suc (suc zero)))) h = refl
le8-byte w (suc (suc (suc (suc (suc zero))))) h = refl
le8-byte w (suc (suc (suc (suc (suc (suc zero)))))) h = refl
le8-byte w (suc (suc (suc (suc (suc (suc (suc zero))))))) h = refl
le8-byte w (suc (suc (suc (suc (suc (suc (suc (suc i)))))))) h = absurd (omega arith)

-- digit e of a word is digit e mod 8 of its byte e div 8
pub word-digit : (s : List ℕ) (at e : ℕ) → Bytes s → at + 8 ≤ length s → e < 64
    → odd (word_at s at / 2 ^ e) ≡ odd (get_or s (at + e / 8) 0 / 2 ^ (e % 8))
word-digit s at e hs h l =
    let i : ℕ = e / 8 in
    let q : i * 8 + e % 8 ≡ e = omega arith in
    ap (λ k. odd (word_at s at / 2 ^ k)) (sym q) ∙ sym (part-digit (word_at s at) (i * 8) 8 (e % 8) (omega arith))
    ∙ ap (λ x. odd (x / 2 ^ (e % 8)))
    (sym (le8-byte (word_at s at) i (omega arith)) ∙ ap (λ (b : List ℕ). get_or b i 0) (le8-word s hs at h) ∙ get_or-take 8 (drop at s) i 0 (omega arith) ∙ get_or-drop at s i 0)

-- ---- digits of XOR, AND and a sum
odd_even : (x y : ℕ) → odd (x + y * 2) ≡ odd x
unfolding odd
odd_even x y = ap bit_of (let e : (x + y * 2) % 2 ≡ x % 2 = omega arith in e)

odd-add : (a b : ℕ) → odd (a + b) ≡ addb (odd a) (odd b)
odd-add a b = ap odd (sym (xor_add_and a b)) ∙ odd_even (bit_xor a b) (bit_and a b) ∙ odd-xor a b

bit_of-min : (x y : ℕ) → x < 2 → y < 2 → bit_of (min x y) ≡ sel bits (bit_of x) (bit_of y)
bit_of-min zero y hx hy = ap bit_of (let e : min 0 y ≡ 0 = omega arith in e)
bit_of-min (suc zero) zero hx hy = refl
bit_of-min (suc zero) (suc zero) hx hy = refl
bit_of-min (suc zero) (suc (suc y)) hx hy = absurd (omega arith)
bit_of-min (suc (suc x)) y hx hy = absurd (omega arith)

odd-and : (a b : ℕ) → odd (bit_and a b) ≡ sel bits (odd a) (odd b)
unfolding odd
odd-and a b =
    let d : ℕ = bit_and (a / 2) (b / 2) in
    let m : ℕ = min (a % 2) (b % 2) in
    let e : (d * 2 + m) % 2 ≡ m = omega arith in
    ap (λ x. bit_of (x % 2)) (and_step a b) ∙ ap bit_of e ∙ bit_of-min (a % 2) (b % 2) (omega arith) (omega arith)

pub and-digit : (a b e : ℕ) → odd (bit_and a b / 2 ^ e) ≡ sel bits (odd (a / 2 ^ e)) (odd (b / 2 ^ e))
and-digit a b e = ap odd (and_shr a b e) ∙ odd-and (a / 2 ^ e) (b / 2 ^ e)

pub sum-digit : (n : ℕ) (f : ℕ → ℕ) (e : ℕ) → odd (sum numbers n f / 2 ^ e) ≡ sum bits n (λ t. odd (f t / 2 ^ e))
unfolding sum odd
sum-digit zero f e = ap odd (zero-div (2 ^ e))
sum-digit (suc n) f e =
    ap odd (xor_shr (sum numbers n f) (f n) e) ∙ odd-xor (sum numbers n f / 2 ^ e) (f n / 2 ^ e)
    ∙ ap (λ b. addb b (odd (f n / 2 ^ e))) (sum-digit n f e)

-- ---- the parity of the count of ones is the sum of the digits
pub parity : (k x : ℕ) → x < 2 ^ k → odd (ones x) ≡ sum bits k (λ e. odd (x / 2 ^ e))
unfolding ones odd sum
parity zero x h = ap (λ n. odd (ones n)) (lt-one h)
parity (suc k) x h =
    ap odd (ones_step x) ∙ odd-add (x % 2) (ones (x / 2))
    ∙ ap₂ addb (odd-mod x 0 ∙ ap odd (sym (div-one x)))
    (parity k (x / 2) (shr_lt k 1 (rw (add-one k) h))
    ∙ sum-ext bits k (λ e. odd (x / 2 / 2 ^ e)) (λ e. odd (x / 2 ^ suc e))
    (λ e l. ap odd (shr-shr x 1 e ∙ ap (λ n. x / 2 ^ n) (one-add e))))
    ∙ sym (sum-cons bits k (λ e. odd (x / 2 ^ e)))

-- the lowest digit, as a number
pub num-mod : (x : ℕ) → x % 2 ≡ num (odd x)
num-mod x = sym (ap num (sym (odd-mod x 0)) ∙ num-odd (x % 2) (mod-lt x (zero-lt-suc 1)))
