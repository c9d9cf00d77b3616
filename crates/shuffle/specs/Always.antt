-- The list that is drawn is always a permutation, whatever the words; each entry is possible; the words are few.
use Rattle.std.specs.Prelude.{◌≡◌, ◌≢◌, Bool, List, ℕ, zero, suc, ◌+◌, ◌-◌, ◌*◌, ◌/◌, ◌%◌, ◌^◌, ◌<◌, ◌≤◌, length, set, ltb}
use Rattle.std.proofs.Math.Path.{refl, ap}
use Rattle.std.proofs.Common.{sym, ap₂, ◌∙◌, subst, mod-lt, mod-eq_of_lt, mul-le-mul_right, div-mul-le_self, le-div_iff_mul-le, div-lt_iff_lt-mul, arith, ltb-true, lt-ltb, eqb-true}
use Rattle.std.proofs.Math.Bool.{true, false}
use Rattle.std.proofs.Math.Nat.{mod-add-div', add-mul-mod_self_right}
use Rattle.std.proofs.Math.ListN.{get_or, length-set}
use Rattle.std.proofs.Math.Seq.{get_or-set_same, get_or-set_other}
use Rattle.std.proofs.Math.Dec.{eqb}
use Rattle.std.proofs.lemmas.Bool.{eqb-false}
use Rattle.lists.specs.Pick.{pick}
use Rattle.lists.specs.Over.{tab, length-tab, get_or-tab}
use Rattle.shuffle.specs.Permutation.{is_perm}
use Rattle.shuffle.specs.PermutationLaws.{perm-of, perm-below, perm-distinct}
use Rattle.shuffle.specs.Turns.{MOST}
use Rattle.shuffle.specs.Shuffle.{PASSED, key_word, multiple, used, swap, down, shuffled, permutation}

-- ---- a swap
-- where entry k stood before entries t and j were swapped
unfoldable from : ℕ → ℕ → ℕ → ℕ
from t j k = pick (eqb k j) t (pick (eqb k t) j k)

module _ (t j : ℕ) where
  -- entry k is one of the two, or neither
  from-case : {C : Type 0} (k : ℕ) → (k ≡ j → from t j k ≡ t → C) → (k ≢ j → k ≡ t → from t j k ≡ j → C)
      → (k ≢ j → k ≢ t → from t j k ≡ k → C) → C
  unfolding from
  from-case {C} k f g h = first (eqb k j) refl (eqb k t) refl
    where
      first : (a : Bool) → eqb k j ≡ a → (b : Bool) → eqb k t ≡ b → C
      first true e b q = f (eqb-true k j e) (ap (λ x. pick x t (pick (eqb k t) j k)) e)
      first false e true q = g (eqb-false k j e) (eqb-true k t q) (ap₂ (λ x y. pick x t (pick y j k)) e q)
      first false e false q = h (eqb-false k j e) (eqb-false k t q) (ap₂ (λ x y. pick x t (pick y j k)) e q)

  -- the entries of a swapped list are those of the list
  from-below : (n k : ℕ) → t < n → j < n → k < n → from t j k < n
  from-below n k ht hj hk = from-case k (λ e q. omega arith) (λ n e q. omega arith) (λ n m q. omega arith)

  -- two places aren't one before the swap
  from_one : (u k : ℕ) → from t j u ≡ from t j k → u ≡ k
  from_one u k h = from-case u
      (λ e q. from-case k (λ f r. omega arith) (λ n f r. omega arith) (λ n m r. omega arith))
      (λ x e q. from-case k (λ f r. omega arith) (λ n f r. omega arith) (λ n m r. omega arith))
      (λ x y q. from-case k (λ f r. omega arith) (λ n f r. omega arith) (λ n m r. omega arith))

  pub length-swap : (p : List ℕ) → length (swap t j p) ≡ length p
  unfolding swap
  length-swap p = length-set (set p t (get_or p j 0)) j (get_or p t 0) ∙ length-set p t (get_or p j 0)

  module _ (p : List ℕ) (ht : t < length p) (hj : j < length p) where
    swap-get : (k : ℕ) → get_or (swap t j p) k 0 ≡ get_or p (from t j k) 0
    unfolding swap
    swap-get k = from-case k
        (λ e q. ap (λ x. get_or (swap t j p) x 0) e
        ∙ get_or-set_same (set p t (get_or p j 0)) j (get_or p t 0) 0 (omega (arith, length-set p t (get_or p j 0)))
        ∙ ap (λ x. get_or p x 0) (sym q))
        (λ n e q. get_or-set_other (set p t (get_or p j 0)) j k (get_or p t 0) 0 n
        ∙ ap (λ x. get_or (set p t (get_or p j 0)) x 0) e ∙ get_or-set_same p t (get_or p j 0) 0 ht
        ∙ ap (λ x. get_or p x 0) (sym q))
        (λ n m q. get_or-set_other (set p t (get_or p j 0)) j k (get_or p t 0) 0 n
        ∙ get_or-set_other p t k (get_or p j 0) 0 m
        ∙ ap (λ x. get_or p x 0) (sym q))

    swap-perm : is_perm p ≡ true → is_perm (swap t j p) ≡ true
    swap-perm h = perm-of (swap t j p)
        (λ k l. rw (swap-get k, length-swap p)
        (perm-below p h (from t j k) (from-below (length p) k ht hj (rw (length-swap p) at l))))
        (λ u k w l e. let m : k < length p = rw (length-swap p) at l in
        let q : u ≡ k = from_one u k (perm-distinct p h (from t j u) (from t j k)
        (from-below (length p) u ht hj (omega arith)) (from-below (length p) k ht hj m) (sym (swap-get u) ∙ e ∙ swap-get k)) in
        omega arith)

-- ---- all swaps
length-down : (w : ℕ → ℕ) (t c : ℕ) (p : List ℕ) → length (down w t c p) ≡ length p
unfolding down
length-down w zero c p = refl
length-down w (suc t) c p =
    let u = used w (suc (suc t)) PASSED c in
    length-down w t (suc u) (swap (suc t) (w u % suc (suc t)) p) ∙ length-swap (suc t) (w u % suc (suc t)) p

-- an index t that is left to do is below the length
down-perm : (w : ℕ → ℕ) (t c : ℕ) (p : List ℕ) → t ≤ length p - 1 → is_perm p ≡ true → is_perm (down w t c p) ≡ true
unfolding down
down-perm w zero c p l h = h
down-perm w (suc t) c p l h =
    let u = used w (suc (suc t)) PASSED c in
    let j = w u % suc (suc t) in
    let k : j < suc (suc t) = mod-lt (w u) (omega arith) in
    down-perm w t (suc u) (swap (suc t) j p) (omega (arith, length-swap (suc t) j p))
    (swap-perm (suc t) j p (omega arith) (omega arith) h)

-- "Start with 0 to l·b − 1 in order."
start-perm : (n : ℕ) → is_perm (tab n (λ k. k)) ≡ true
start-perm n =
    perm-of (tab n (λ k. k)) (λ k l. rw long (omega (arith, is k l))) (λ u k w l e. omega (arith, is u (omega arith), is k l))
  where
    long : length (tab n (λ k. k)) ≡ n
    long = length-tab n (λ k. k)

    is : (k : ℕ) → k < length (tab n (λ k. k)) → (k < n) × (get_or (tab n (λ k. k)) k 0 ≡ k)
    is k l = let h : k < n = rw long at l in (h, get_or-tab n k (λ k. k) 0 h)

-- ---- always a permutation: whatever the words are, and for every length
pub length-shuffled : (w : ℕ → ℕ) (n : ℕ) → length (shuffled w n) ≡ n
unfolding shuffled
length-shuffled w n = length-down w (n - 1) 0 (tab n (λ k. k)) ∙ length-tab n (λ k. k)

pub always : (w : ℕ → ℕ) (n : ℕ) → is_perm (shuffled w n) ≡ true
unfolding shuffled
always w n = down-perm w (n - 1) 0 (tab n (λ k. k)) (omega (arith, length-tab n (λ k. k))) (start-perm n)

-- so is the one from the joint seed
pub length_permutation : (key : List ℕ) (n : ℕ) → length (permutation key n) ≡ n
unfolding permutation
length_permutation key n = length-shuffled (key_word key) n

pub always-permutation : (key : List ℕ) (n : ℕ) → is_perm (permutation key n) ≡ true
unfolding permutation
always-permutation key n = always (key_word key) n

-- so its entries are below n
pub permutation-below : (key : List ℕ) (n t : ℕ) → t < n → get_or (permutation key n) t 0 < n
permutation-below key n t l =
    let p : List ℕ = permutation key n in
    let e : length p ≡ n = length_permutation key n in
    subst (λ m. get_or p t 0 < m) e (perm-below p (always-permutation key n) t (subst (λ m. t < m) (sym e) l))

-- ---- "the largest multiple of t + 1 not above 2^32": it isn't above it, and none that isn't above it is larger
pub multiple-most : (m : ℕ) → multiple m ≤ 2 ^ 32
unfolding multiple
multiple-most m = div-mul-le_self (2 ^ 32) m

pub multiple-largest : (m k : ℕ) → 1 ≤ m → k * m ≤ 2 ^ 32 → k * m ≤ multiple m
unfolding multiple
multiple-largest m k h l = mul-le-mul_right m ((le-div_iff_mul-le h).1 l)

-- ---- each entry is possible
-- all are equally likely: for each j below t + 1 there are 2^32 / (t + 1) words that are used at once and swap with entry j
pub possible : (t j q : ℕ) → j < suc t → q < 2 ^ 32 / suc t
    → (j + q * suc t < 2 ^ 32) × (ltb (j + q * suc t) (multiple (suc t)) ≡ true) × ((j + q * suc t) % suc t ≡ j)
unfolding multiple
possible t j q h l =
    let low : j + q * suc t < 2 ^ 32 / suc t * suc t = omega (arith, mul-le-mul_right (suc t) l) in
    (omega (arith, div-mul-le_self (2 ^ 32) (suc t)), lt-ltb _ _ low, add-mul-mod_self_right j q (suc t) ∙ mod-eq_of_lt h)

-- every word that is used at once is one of them
pub only : (t v : ℕ) → ltb v (multiple (suc t)) ≡ true → (v / suc t < 2 ^ 32 / suc t) × (v ≡ v % suc t + v / suc t * suc t)
unfolding multiple
only t v h = ((div-lt_iff_lt-mul {k = suc t} (omega arith)).1 (ltb-true _ _ h), sym (mod-add-div' v (suc t)))

-- the first of them
pub some_word : (t j : ℕ) → t < 2 ^ 32 → j < suc t → (v : ℕ) × (v < 2 ^ 32) × (ltb v (multiple (suc t)) ≡ true) × (v % suc t ≡ j)
some_word t j h l =
    let r = possible t j 0 l ((le-div_iff_mul-le (omega arith)).1 (omega arith)) in
    (j + 0 * suc t, r.0, r.1, r.2)

-- ---- the words are few
-- the word that is used is one of `left` + 1, from word c on
pub used_low : (w : ℕ → ℕ) (m left c : ℕ) → c ≤ used w m left c
unfolding used
used_low w m zero c = omega arith
used_low w m (suc left) c = go (ltb (w c) (multiple m)) (used_low w m left (suc c))
  where
    go : (b : Bool) → suc c ≤ used w m left (suc c) → c ≤ pick b c (used w m left (suc c))
    go true h = omega arith
    go false h = omega arith

pub used-most : (w : ℕ → ℕ) (m left c : ℕ) → used w m left c ≤ c + left
unfolding used
used-most w m zero c = omega arith
used-most w m (suc left) c = go (ltb (w c) (multiple m)) (used-most w m left (suc c))
  where
    go : (b : Bool) → used w m left (suc c) ≤ suc c + left → pick b c (used w m left (suc c)) ≤ c + suc left
    go true h = omega arith
    go false h = omega arith

-- which one it is hangs on the first `left`
pub used-ext : (w v : ℕ → ℕ) (m left c : ℕ) → ((k : ℕ) → c ≤ k → k < c + left → w k ≡ v k) → used w m left c ≡ used v m left c
unfolding used
used-ext w v m zero c h = refl
used-ext w v m (suc left) c h =
    ap₂ (λ x y. pick (ltb x (multiple m)) c y) (h c (omega arith) (omega arith))
    (used-ext w v m left (suc c) (λ k l r. h k (omega arith) (omega arith)))

-- an index sees at most 65 words: the list for t + 1 entries at most 65·t
pub few : (w v : ℕ → ℕ) (t c : ℕ) (p : List ℕ) → ((k : ℕ) → c ≤ k → k < c + 65 * t → w k ≡ v k) → down w t c p ≡ down v t c p
unfolding down
few w v zero c p h = refl
few w v (suc t) c p h =
    let u = used w (suc (suc t)) PASSED c in
    let low : c ≤ u = used_low w (suc (suc t)) PASSED c in
    let most : u ≤ c + 64 = used-most w (suc (suc t)) PASSED c in
    let same : u ≡ used v (suc (suc t)) PASSED c = used-ext w v (suc (suc t)) PASSED c (λ k l r. h k l (omega arith)) in
    let word : w u ≡ v u = h u low (omega arith) in
    few w v t (suc u) (swap (suc t) (w u % suc (suc t)) p) (λ k l r. h k (omega arith) (omega arith))
    ∙ ap (λ x. down v t (suc u) (swap (suc t) (x % suc (suc t)) p)) word
    ∙ ap (λ x. down v t (suc x) (swap (suc t) (v x % suc (suc t)) p)) same

-- n is l·b
pub words-few : (w v : ℕ → ℕ) (n : ℕ) → ((k : ℕ) → k < 65 * (n - 1) → w k ≡ v k) → shuffled w n ≡ shuffled v n
unfolding shuffled
words-few w v n h = few w v (n - 1) 0 (tab n (λ k. k)) (λ k l r. h k (omega arith))

-- so the counter of 32 bits never wraps
pub counter-fits : (n c : ℕ) → n ≤ MOST → c < 65 * (n - 1) → c / 16 < 2 ^ 32
counter-fits n c h l = omega arith
