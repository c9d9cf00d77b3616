-- Products by {01}, {02} and {03}, of which MixColumns is made: each computed once over all bytes, and carried to each. The product is
-- additive in both factors; so it commutes and associates, which is computed on powers of x alone.
use Rattle.std.specs.Prelude.{◌≡◌, refl, Bool, true, false, ℕ, zero, suc, ◌+◌, ◌*◌, ◌/◌, ◌^◌, ◌<◌, ltb, eqb}
use Rattle.std.proofs.Common.{sym, ap, ap₂, ◌∙◌, add-zero, pow_pos, ltb-true, eqb-true}
use Rattle.std.specs.Int.Bits.{bit_xor, xor_self}
use Rattle.std.proofs.lemmas.Nat.{xor_block, xor_shr}
use Rattle.lists.specs.All.{all_of, of-all}
use Rattle.lists.specs.Pick.{pick}
use Rattle.algebra.specs.Group.{numbers, sel, odd, addb, odd-xor, unit-r, op4, sel-op, sel-add}
use Rattle.algebra.specs.Sum.{sum, sum-ext, sum-op}
use Rattle.fips197.specs.Field.{times, M, mod_m, product}

of-bytes : (f g : ℕ → ℕ) → all_of 256 (λ b. eqb (f b) (g b)) ≡ true → (b : ℕ) → b < 256 → f b ≡ g b
of-bytes f g h b l = eqb-true (f b) (g b) (of-all 256 (λ b. eqb (f b) (g b)) h b l)

ones : all_of 256 (λ b. eqb (product 1 b) b) ≡ true
unfolding all_of odd sum times mod_m product
ones = refl

pub product-one : (b : ℕ) → b < 256 → product 1 b ≡ b
product-one = of-bytes (product 1) (λ b. b) ones

twos : all_of 256 (λ b. eqb (product 2 b) (bit_xor (b * 2) (b / 128 * 0x11b))) ≡ true
unfolding all_of odd sum times mod_m product
twos = refl

-- shifted, and m(x) subtracted where a digit 8 came out
pub product-two : (b : ℕ) → b < 256 → product 2 b ≡ bit_xor (b * 2) (b / 128 * 0x11b)
product-two = of-bytes (product 2) (λ b. bit_xor (b * 2) (b / 128 * 0x11b)) twos

threes : all_of 256 (λ b. eqb (product 3 b) (bit_xor (product 2 b) b)) ≡ true
unfolding all_of odd sum times mod_m product
threes = refl

pub product-three : (b : ℕ) → b < 256 → product 3 b ≡ bit_xor (product 2 b) b
product-three = of-bytes (product 3) (λ b. bit_xor (product 2 b) b) threes

small : all_of 4 (λ m. all_of 256 (λ b. ltb (product m b) 256)) ≡ true
unfolding all_of odd sum times mod_m product
small = refl

pub product-byte : (m b : ℕ) → m < 4 → b < 256 → product m b < 256
product-byte m b h l =
    ltb-true (product m b) 256
    (of-all 256 (λ b. ltb (product m b) 256) (of-all 4 (λ m. all_of 256 (λ b. ltb (product m b) 256)) small m h) b l)

-- ---- the product is additive in both factors
abbrev Additive : (ℕ → ℕ) → Type 0
Additive f = (p q : ℕ) → f (bit_xor p q) ≡ bit_xor (f p) (f q)

after : (f g : ℕ → ℕ) → Additive f → Additive g → Additive (λ p. f (g p))
after f g hf hg p q = ap f (hg p q) ∙ hf (g p) (g q)

shifted : (p q i : ℕ) → bit_xor p q * 2 ^ i ≡ bit_xor (p * 2 ^ i) (q * 2 ^ i)
shifted p q i =
    sym (add-zero (bit_xor p q * 2 ^ i)) ∙ sym (xor_block i p q 0 0 (pow_pos i) (pow_pos i))
    ∙ ap₂ bit_xor (add-zero (p * 2 ^ i)) (add-zero (q * 2 ^ i))

digit-add : (p q i : ℕ) → odd (bit_xor p q / 2 ^ i) ≡ addb (odd (p / 2 ^ i)) (odd (q / 2 ^ i))
digit-add p q i = ap odd (xor_shr p q i) ∙ odd-xor (p / 2 ^ i) (q / 2 ^ i)

times-first : (c : ℕ) → Additive (λ b. times b c)
unfolding times
times-first c p q =
    sum-ext numbers 8 (λ i. sel numbers (odd (c / 2 ^ i)) (bit_xor p q * 2 ^ i))
    (λ i. bit_xor (sel numbers (odd (c / 2 ^ i)) (p * 2 ^ i)) (sel numbers (odd (c / 2 ^ i)) (q * 2 ^ i)))
    (λ i l. ap (sel numbers (odd (c / 2 ^ i))) (shifted p q i) ∙ sel-op numbers (odd (c / 2 ^ i)) (p * 2 ^ i) (q * 2 ^ i))
    ∙ sum-op numbers 8 (λ i. sel numbers (odd (c / 2 ^ i)) (p * 2 ^ i)) (λ i. sel numbers (odd (c / 2 ^ i)) (q * 2 ^ i))

times-second : (b : ℕ) → Additive (times b)
unfolding times
times-second b p q =
    sum-ext numbers 8 (λ i. sel numbers (odd (bit_xor p q / 2 ^ i)) (b * 2 ^ i))
    (λ i. bit_xor (sel numbers (odd (p / 2 ^ i)) (b * 2 ^ i)) (sel numbers (odd (q / 2 ^ i)) (b * 2 ^ i)))
    (λ i l. ap (λ t. sel numbers t (b * 2 ^ i)) (digit-add p q i) ∙ sel-add numbers (odd (p / 2 ^ i)) (odd (q / 2 ^ i)) (b * 2 ^ i))
    ∙ sum-op numbers 8 (λ i. sel numbers (odd (p / 2 ^ i)) (b * 2 ^ i)) (λ i. sel numbers (odd (q / 2 ^ i)) (b * 2 ^ i))

-- a turn of mod_m: m is added where the digit is 1
chosen : (t : Bool) (p m : ℕ) → pick t (bit_xor p m) p ≡ bit_xor p (sel numbers t m)
chosen true p m = refl
chosen false p m = sym (unit-r numbers p)

turn-add : (k m : ℕ) → Additive (λ p. pick (odd (p / 2 ^ k)) (bit_xor p m) p)
turn-add k m p q =
    let x : Bool = odd (p / 2 ^ k) in
    let y : Bool = odd (q / 2 ^ k) in
    chosen (odd (bit_xor p q / 2 ^ k)) (bit_xor p q) m
    ∙ ap (bit_xor (bit_xor p q)) (ap (λ t. sel numbers t m) (digit-add p q k) ∙ sel-add numbers x y m)
    ∙ op4 numbers p q (sel numbers x m) (sel numbers y m)
    ∙ sym (ap₂ bit_xor (chosen x p m) (chosen y q m))

mod_m-add : (n : ℕ) → Additive (mod_m n)
unfolding mod_m
mod_m-add zero p q = refl
mod_m-add (suc n) p q =
    after (mod_m n) (λ p. pick (odd (p / 2 ^ (8 + n))) (bit_xor p (M * 2 ^ n)) p) (mod_m-add n) (turn-add (8 + n) (M * 2 ^ n)) p q

first-add : (c : ℕ) → Additive (λ b. product b c)
unfolding product
first-add c = after (mod_m 7) (λ b. times b c) (mod_m-add 7) (times-first c)

second-add : (b : ℕ) → Additive (product b)
unfolding product
second-add b = after (mod_m 7) (times b) (mod_m-add 7) (times-second b)

-- ---- so what holds of x^0 to x^7 holds of all bytes
add-nil : (f : ℕ → ℕ) → Additive f → f 0 ≡ 0
add-nil f h = h 0 0 ∙ xor_self (f 0)

sum-add : (f : ℕ → ℕ) → Additive f → (n : ℕ) (x : ℕ → Bool) (v : ℕ → ℕ)
    → f (sum numbers n (λ i. sel numbers (x i) (v i))) ≡ sum numbers n (λ i. sel numbers (x i) (f (v i)))
unfolding sum
sum-add f h zero x v = add-nil f h
sum-add f h (suc n) x v =
    h (sum numbers n (λ i. sel numbers (x i) (v i))) (sel numbers (x n) (v n)) ∙ ap₂ bit_xor (sum-add f h n x v) (one (x n))
  where
    one : (t : Bool) → f (sel numbers t (v n)) ≡ sel numbers t (f (v n))
    one true = refl
    one false = add-nil f h

-- a byte is the sum of its digits
summed : ℕ → ℕ
summed c = sum numbers 8 (λ i. sel numbers (odd (c / 2 ^ i)) (2 ^ i))

all-summed : all_of 256 (λ c. eqb c (summed c)) ≡ true
unfolding all_of odd sum summed
all-summed = refl

agree : (f g : ℕ → ℕ) → Additive f → Additive g → ((i : ℕ) → i < 8 → f (2 ^ i) ≡ g (2 ^ i)) → (c : ℕ) → c < 256 → f c ≡ g c
unfolding summed
agree f g hf hg h c l =
    let x : ℕ → Bool = λ i. odd (c / 2 ^ i) in
    let e : c ≡ summed c = of-bytes (λ c. c) summed all-summed c l in
    ap f e ∙ sum-add f hf 8 x (λ i. 2 ^ i)
    ∙ sum-ext numbers 8 (λ i. sel numbers (x i) (f (2 ^ i))) (λ i. sel numbers (x i) (g (2 ^ i))) (λ i k. ap (sel numbers (x i)) (h i k))
    ∙ sym (ap g e ∙ sum-add g hg 8 x (λ i. 2 ^ i))

-- ---- so it commutes and associates
commutes : all_of 8 (λ i. all_of 8 (λ j. eqb (product (2 ^ i) (2 ^ j)) (product (2 ^ j) (2 ^ i)))) ≡ true
unfolding all_of odd sum times mod_m product
commutes = refl

pub product-comm : (b c : ℕ) → b < 256 → c < 256 → product b c ≡ product c b
product-comm b c hb hc =
    agree (λ b. product b c) (product c) (first-add c) (second-add c)
    (λ i li. agree (product (2 ^ i)) (λ c. product c (2 ^ i)) (second-add (2 ^ i)) (first-add (2 ^ i))
    (λ j lj. eqb-true (product (2 ^ i) (2 ^ j)) (product (2 ^ j) (2 ^ i))
    (of-all 8 (λ j. eqb (product (2 ^ i) (2 ^ j)) (product (2 ^ j) (2 ^ i)))
    (of-all 8 (λ i. all_of 8 (λ j. eqb (product (2 ^ i) (2 ^ j)) (product (2 ^ j) (2 ^ i)))) commutes i li) j lj)) c hc) b hb

same : ℕ → ℕ → ℕ → Bool
same a b c = eqb (product (product a b) c) (product a (product b c))

associates : all_of 8 (λ i. all_of 8 (λ j. all_of 8 (λ k. same (2 ^ i) (2 ^ j) (2 ^ k)))) ≡ true
unfolding all_of odd sum times mod_m product same
associates = refl

basis : (i j k : ℕ) → i < 8 → j < 8 → k < 8 → product (product (2 ^ i) (2 ^ j)) (2 ^ k) ≡ product (2 ^ i) (product (2 ^ j) (2 ^ k))
unfolding same
basis i j k li lj lk =
    eqb-true (product (product (2 ^ i) (2 ^ j)) (2 ^ k)) (product (2 ^ i) (product (2 ^ j) (2 ^ k)))
    (of-all 8 (λ k. same (2 ^ i) (2 ^ j) (2 ^ k))
    (of-all 8 (λ j. all_of 8 (λ k. same (2 ^ i) (2 ^ j) (2 ^ k)))
    (of-all 8 (λ i. all_of 8 (λ j. all_of 8 (λ k. same (2 ^ i) (2 ^ j) (2 ^ k)))) associates i li) j lj) k lk)

pub product-assoc : (a b c : ℕ) → a < 256 → b < 256 → c < 256 → product (product a b) c ≡ product a (product b c)
product-assoc a b c ha hb hc =
    agree (λ a. product (product a b) c) (λ a. product a (product b c))
    (after (λ p. product p c) (λ a. product a b) (first-add c) (first-add b)) (first-add (product b c))
    (λ i li. agree (λ b. product (product (2 ^ i) b) c) (λ b. product (2 ^ i) (product b c))
    (after (λ p. product p c) (product (2 ^ i)) (first-add c) (second-add (2 ^ i)))
    (after (product (2 ^ i)) (λ b. product b c) (second-add (2 ^ i)) (first-add c))
    (λ j lj. agree (product (product (2 ^ i) (2 ^ j))) (λ c. product (2 ^ i) (product (2 ^ j) c))
    (second-add (product (2 ^ i) (2 ^ j))) (after (product (2 ^ i)) (product (2 ^ j)) (second-add (2 ^ i)) (second-add (2 ^ j)))
    (λ k lk. basis i j k li lj lk) c hc) b hb) a ha
