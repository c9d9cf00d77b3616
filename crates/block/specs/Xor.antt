-- XOR of byte strings, `xor_inplace a b`: laws for every length, with a premise on lengths only where the law needs one.
use Rattle.std.specs.Prelude.{◌≡◌, refl, ◌⊎◌, Bool, true, false, List, ℕ, zero, suc, ◌+◌, ◌-◌, ◌<◌, ◌≤◌, min, length, get_or, take, drop, replicate, ltb}
use Rattle.std.proofs.Common.{sym, ap, ap₂, ◌∙◌, ⊎_elim, arith, length-take, length-drop, get_or-take, get_or-drop, ext_get_or, ltb-true, ltb-false}
use Rattle.std.proofs.lemmas.List.{length-replicate}
use Rattle.std.proofs.Math.ListN.{get_or-eq_default}
use Rattle.std.specs.Int.Bits.{bit_xor, xor_self, xor_zero_l, xor_zero_r}
use Rattle.std.proofs.lemmas.Nat.{xor_comm, xor_lt}
use Rattle.lists.specs.Over.{length-tab, get_or-tab}
use Rattle.lists.specs.Bytes.{Bytes, bytes-tab}
use Rattle.algebra.specs.Xor.{xor_assoc}
use Rattle.block.specs.Block.{xor_at, xor_inplace}

pub length-xor : (a b : List ℕ) → length (xor_inplace a b) ≡ length a
unfolding xor_inplace
length-xor a b = length-tab (length a) (xor_at a b)

pub get_or-xor : (a b : List ℕ) (i : ℕ) → i < length a → get_or (xor_inplace a b) i 0 ≡ bit_xor (get_or a i 0) (get_or b i 0)
unfolding xor_inplace
get_or-xor a b i h = get_or-tab (length a) i (xor_at a b) 0 h

-- a list that agrees with the XOR in length and at each index
pub is-xor : (x a b : List ℕ) → length x ≡ length a → ((i : ℕ) → i < length a → get_or x i 0 ≡ bit_xor (get_or a i 0) (get_or b i 0))
    → x ≡ xor_inplace a b
is-xor x a b h e =
    ext_get_or 0 x (xor_inplace a b) (h ∙ sym (length-xor a b))
    (λ i l. let l' : i < length a = omega arith in e i l' ∙ sym (get_or-xor a b i l'))

zeros : (n i : ℕ) → ◌≡◌ {A = ℕ} (get_or (replicate n 0) i 0) 0
zeros zero i = refl
zeros (suc n) zero = refl
zeros (suc n) (suc i) = zeros n i

-- ---- neutral: zeros, however many
pub xor-zeros : (a : List ℕ) (n : ℕ) → xor_inplace a (replicate n 0) ≡ a
xor-zeros a n = sym (is-xor a a (replicate n 0) refl (λ i l. sym (ap (bit_xor (get_or a i 0)) (zeros n i) ∙ xor_zero_r (get_or a i 0))))

pub zeros-xor : (b : List ℕ) → xor_inplace (replicate (length b) 0) b ≡ b
zeros-xor b =
    sym (is-xor b (replicate (length b) 0) b (sym (length-replicate (length b) 0))
    (λ i l. sym (ap (λ x. bit_xor x (get_or b i 0)) (zeros (length b) i) ∙ xor_zero_l (get_or b i 0))))

-- ---- self-inverse
pub xor_same : (a : List ℕ) → xor_inplace a a ≡ replicate (length a) 0
xor_same a =
    sym (is-xor (replicate (length a) 0) a a (length-replicate (length a) 0) (λ i l. zeros (length a) i ∙ sym (xor_self (get_or a i 0))))

-- added twice is not added
pub xor-twice : (a b : List ℕ) → xor_inplace (xor_inplace a b) b ≡ a
xor-twice a b =
    sym (is-xor a (xor_inplace a b) b (sym (length-xor a b)) (λ i l. let l' : i < length a = omega (arith, length-xor a b) in
    sym (ap (λ x. bit_xor x (get_or b i 0)) (get_or-xor a b i l') ∙ xor_assoc (get_or a i 0) (get_or b i 0) (get_or b i 0)
    ∙ ap (bit_xor (get_or a i 0)) (xor_self (get_or b i 0)) ∙ xor_zero_r (get_or a i 0))))

-- ---- commutative
pub xor-swap : (a b : List ℕ) → length a ≡ length b → xor_inplace a b ≡ xor_inplace b a
xor-swap a b h =
    is-xor (xor_inplace a b) b a (length-xor a b ∙ h) (λ i l. get_or-xor a b i (omega arith) ∙ xor_comm (get_or a i 0) (get_or b i 0))

-- the order in which two strings are added does not matter, whatever the lengths
pub xor-order : (a b c : List ℕ) → xor_inplace (xor_inplace a b) c ≡ xor_inplace (xor_inplace a c) b
xor-order a b c =
    is-xor (xor_inplace (xor_inplace a b) c) (xor_inplace a c) b (length-xor (xor_inplace a b) c ∙ length-xor a b ∙ sym (length-xor a c))
    (λ i l. let l' : i < length a = omega (arith, length-xor a c) in
    get_or-xor (xor_inplace a b) c i (omega (arith, length-xor a b)) ∙ ap (λ x. bit_xor x (get_or c i 0)) (get_or-xor a b i l')
    ∙ xor_assoc (get_or a i 0) (get_or b i 0) (get_or c i 0) ∙ ap (bit_xor (get_or a i 0)) (xor_comm (get_or b i 0) (get_or c i 0))
    ∙ sym (xor_assoc (get_or a i 0) (get_or c i 0) (get_or b i 0)) ∙ ap (λ x. bit_xor x (get_or b i 0)) (sym (get_or-xor a c i l')))

-- ---- associative: where b is not the shortest
pub xor-group : (a b c : List ℕ) → (length a ≤ length b) ⊎ (length c ≤ length b)
    → xor_inplace (xor_inplace a b) c ≡ xor_inplace a (xor_inplace b c)
xor-group a b c h =
    is-xor (xor_inplace (xor_inplace a b) c) a (xor_inplace b c) (length-xor (xor_inplace a b) c ∙ length-xor a b)
    (λ i l. get_or-xor (xor_inplace a b) c i (omega (arith, length-xor a b)) ∙ ap (λ x. bit_xor x (get_or c i 0)) (get_or-xor a b i l)
    ∙ xor_assoc (get_or a i 0) (get_or b i 0) (get_or c i 0) ∙ ap (bit_xor (get_or a i 0)) (inner i l (ltb i (length b)) refl))
  where
    inner : (i : ℕ) → i < length a → (t : Bool) → ltb i (length b) ≡ t → bit_xor (get_or b i 0) (get_or c i 0) ≡ get_or (xor_inplace b c) i 0
    inner i l true e = sym (get_or-xor b c i (ltb-true i (length b) e))
    inner i l false e =
        let out : length b ≤ i = ltb-false i (length b) e in
        let z : length c ≤ i = ⊎_elim (λ k. absurd (omega arith)) (λ k. omega arith) h in
        ap₂ bit_xor (get_or-eq_default b 0 out) (get_or-eq_default c 0 z)
        ∙ sym (get_or-eq_default (xor_inplace b c) 0 (omega (arith, length-xor b c)))

-- ---- parts, and bytes
pub xor-part : (k at : ℕ) (a b : List ℕ) → take k (drop at (xor_inplace a b)) ≡ xor_inplace (take k (drop at a)) (take k (drop at b))
xor-part k at a b =
    is-xor (take k (drop at (xor_inplace a b))) (take k (drop at a)) (take k (drop at b))
    (long (xor_inplace a b) ∙ ap (λ n. min k (n - at)) (length-xor a b) ∙ sym (long a))
    (λ i l. let l' : i < min k (length a - at) = rw long at l in
    let lk : i < k = omega arith in
    let e : (s : List ℕ) → get_or (take k (drop at s)) i 0 ≡ get_or s (at + i) 0 = λ s. get_or-take k (drop at s) i 0 lk ∙ get_or-drop at s i 0 in
    e (xor_inplace a b) ∙ get_or-xor a b (at + i) (omega arith) ∙ sym (ap₂ bit_xor (e a) (e b)))
  where
    long : (s : List ℕ) → length (take k (drop at s)) ≡ min k (length s - at)
    long s = length-take k (drop at s) ∙ ap (min k) (length-drop at s)

pub bytes-xor : (a b : List ℕ) → Bytes a → Bytes b → Bytes (xor_inplace a b)
unfolding xor_inplace
bytes-xor a b h k = bytes-tab (length a) (xor_at a b) (λ i l. xor_lt 8 (get_or a i 0) (get_or b i 0) (h i) (k i))
