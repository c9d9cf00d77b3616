-- std's rotation of a word is the specification's.
use Rattle.std.specs.Prelude.{◌≡◌, ◌+◌, ◌-◌, ◌*◌, ◌/◌, ◌%◌, ◌^◌, ◌<◌, bit_or, bit_xor}
use Rattle.lists.specs.Kit.{ℕ, ap, ap₂, ◌∙◌, arith, subst}
use Rattle.std.specs.Int.{w32, rotate_right}
use Rattle.std.proofs.lemmas.Nat.{xor_lt}
use Rattle.word.specs.Word.{rotr}
use Rattle.word.specs.WordLaws.{turned}

pub turn : (k x : ℕ) → 0 < k → k < 32 → x < 2 ^ 32 → rotate_right w32 x k ≡ rotr k x
unfolding rotr
turn k x z h f =
    let e : 32 ≡ k + (32 - k) = omega arith in
    let near : k % 32 ≡ k = omega arith in
    let far : (32 - k % 32) % 32 ≡ 32 - k = omega arith in
    ap₂ (λ (a b : ℕ). bit_or (x / 2 ^ a) (x * 2 ^ b % 2 ^ 32)) near far
    ∙ ap (λ (n : ℕ). bit_or (x / 2 ^ k) (x * 2 ^ (32 - k) % 2 ^ n)) e
    ∙ turned x (32 - k) k (subst (λ (n : ℕ). x < 2 ^ n) (let s : 32 ≡ 32 - k + k = omega arith in s) f)

pub turn_xor : (k x y : ℕ) → 0 < k → k < 32 → x < 2 ^ 32 → y < 2 ^ 32 → rotate_right w32 (bit_xor x y) k ≡ rotr k (bit_xor x y)
turn_xor k x y z h f g = turn k (bit_xor x y) z h (xor_lt 32 x y f g)
