-- The tree's rule: a list of one chunk is that chunk; else the left subtree takes the largest power of two of chunks below the total.
use Rattle.std.specs.Prelude.{◌≡◌, refl, Bool, true, false, List, ℕ, zero, suc, ◌+◌, ◌-◌, ◌*◌, ◌/◌, ◌^◌, ◌≤◌, ◌<◌, length, take, drop, ltb, leb, max}
use Rattle.std.proofs.Common.{sym, ap, ap₂, ◌∙◌, pow-suc, add-one, arith, pow_pos, pow_mono, length-drop, length-take-le, take_all, take-take, drop-drop, le-leb, leb-true, leb-false, ltb-true, ltb-false}
use Rattle.std.proofs.lemmas.Bool.{lt-leb}
use Rattle.std.specs.Int.{IsPowerOfTwo}
use Rattle.lists.specs.Pick.{pick}
use Rattle.lists.specs.Sect.{get, drop-take, length-get}
use Rattle.blake3_node.specs.Node.{chunk, parent, CHUNK_LEN}
use Rattle.blake3_chunks.specs.Chunks.{WINDOW, four}
use Rattle.blake3.specs.Tree.{chunks, power_below, left_chunks, tree_in, tree}

-- ---- the left subtree

pub record Power (p : ℕ) : Type 0 where
  pub height : ℕ
  pub is : p ≡ 2 ^ height

-- p is the largest power of two below n: a power of two, below n, and its double is not
pub record Largest (n p : ℕ) : Type 0 where
  pub power : Power p
  pub below : p < n
  pub next : n ≤ 2 * p

pub largest-one : (n p q : ℕ) → Largest n p → Largest n q → p ≡ q
largest-one n p q u v = by (ltb u.power.height v.power.height) refl (ltb v.power.height u.power.height) refl
  where
    double : (i j : ℕ) → i < j → 2 * 2 ^ i ≤ 2 ^ j
    double i j h = omega (arith, pow-suc 2 i, pow_mono {i = suc i} {j = j} h)

    by : (a : Bool) → ltb u.power.height v.power.height ≡ a → (b : Bool) → ltb v.power.height u.power.height ≡ b → p ≡ q
    by true e b f = absurd (omega (arith, u.power.is, u.next, v.power.is, v.below, double u.power.height v.power.height (ltb-true u.power.height v.power.height e)))
    by false e true f = absurd (omega (arith, u.power.is, u.below, v.power.is, v.next, double v.power.height u.power.height (ltb-true v.power.height u.power.height f)))
    by false e false f =
        let h : u.power.height ≡ v.power.height =
        omega (arith, ltb-false u.power.height v.power.height e, ltb-false v.power.height u.power.height f) in
        u.power.is ∙ ap (λ (k : ℕ). 2 ^ k) h ∙ sym v.power.is

large : (n : ℕ) → n < 2 ^ n
large zero = omega arith
large (suc n) = omega (arith, large n, pow-suc 2 n)

up_to : (k n : ℕ) → 1 < n → n ≤ 2 ^ suc k → Largest n (power_below k n)
unfolding power_below
up_to zero n h w = record { power = record { height = 0; is = refl }; below = h; next = w }
up_to (suc k) n h w = by (ltb (2 ^ suc k) n) refl (up_to k n h)
  where
    by : (b : Bool) → ltb (2 ^ suc k) n ≡ b → (n ≤ 2 ^ suc k → Largest n (power_below k n)) → Largest n (pick b (2 ^ suc k) (power_below k n))
    by true e r = record { power = record { height = suc k; is = refl }; below = ltb-true (2 ^ suc k) n e; next = omega (arith, pow-suc 2 (suc k)) }
    by false e r = r (ltb-false (2 ^ suc k) n e)

pub left-largest : (n : ℕ) → 1 < n → Largest n (left_chunks n)
unfolding left_chunks
left-largest n h = up_to n n h (omega (arith, large n, pow-suc 2 n))

-- 1, and the double of one
pub power-one : Power 1
power-one = record { height = 0; is = refl }

pub power-double : (p : ℕ) → Power p → Power (2 * p)
power-double p w = record { height = suc w.height; is = ap (λ (k : ℕ). 2 * k) w.is ∙ (let e : 2 * 2 ^ w.height ≡ 2 ^ suc w.height = omega (arith, pow-suc 2 w.height) in e) }

-- half of the least power of two that is n or more
pub half-largest : (n r : ℕ) → 1 < n → IsPowerOfTwo r → n ≤ r → r / 2 < max 1 n → Largest n (r / 2)
half-largest n r h (zero, e) l u = absurd (omega arith)
half-largest n r h (suc k, e) l u =
    let q : r / 2 ≡ 2 ^ k = omega (arith, pow-suc 2 k) in
    record { power = record { height = k; is = q }; below = omega arith; next = omega (arith, pow-suc 2 k) }

pub power_pos : (p : ℕ) → Power p → 0 < p
power_pos p w = omega (arith, w.is, pow_pos w.height)

-- ---- chunks of the two parts

-- of more than one chunk, with k the left part's
module _ (n k : ℕ) (h : CHUNK_LEN < n) (p : Largest (chunks n) k) where
  pub some : 0 < k
  some = power_pos k p.power

  pub inside : CHUNK_LEN * k < n
  inside = omega (arith, p.below)

  pub left-count : chunks (CHUNK_LEN * k) ≡ k
  left-count = omega (arith, some)

  pub right-count : chunks (n - CHUNK_LEN * k) ≡ chunks n - k
  right-count = omega (arith, some, inside)

-- ---- parts of lists

drop_get : (from len n : ℕ) (m : List ℕ) → n ≤ len → drop n (get from len m) ≡ get (from + n) (len - n) m
drop_get from len n m h = drop-take n len (drop from m) h ∙ ap (take (len - n)) (drop-drop n from m)

-- ---- the tree

-- one chunk
one : (d : ℕ) (s : List ℕ) (t f : ℕ) → length s ≤ CHUNK_LEN → tree_in d s t f ≡ chunk s t f
unfolding tree_in
one zero s t f h = refl
one (suc d) s t f h = rw (le-leb (length s) CHUNK_LEN h)

-- more than one
module _ (s : List ℕ) (t f k : ℕ) (h : CHUNK_LEN < length s) (p : Largest (chunks (length s)) k) where
  more : (d : ℕ) → tree_in (suc d) s t f ≡ parent (tree_in d (take (CHUNK_LEN * k) s) t 0) (tree_in d (drop (CHUNK_LEN * k) s) (t + k) 0) f
  unfolding tree_in
  more d =
      rw (lt-leb (length s) CHUNK_LEN h)
      (ap (λ (k : ℕ). parent (tree_in d (take (CHUNK_LEN * k) s) t 0) (tree_in d (drop (CHUNK_LEN * k) s) (t + k) 0) f)
      (largest-one (chunks (length s)) (left_chunks (chunks (length s))) k (left-largest (chunks (length s)) (omega arith)) p))

  left-chunks : chunks (length (take (CHUNK_LEN * k) s)) ≡ k
  left-chunks =
      ap chunks (length-take-le (CHUNK_LEN * k) s (omega (arith, inside (length s) k h p))) ∙ left-count (length s) k h p

  right-chunks : chunks (length (drop (CHUNK_LEN * k) s)) ≡ chunks (length s) - k
  right-chunks = ap chunks (length-drop (CHUNK_LEN * k) s) ∙ right-count (length s) k h p

-- a larger bound on the depth changes nothing
deep : (d e : ℕ) (s : List ℕ) (t f : ℕ) → chunks (length s) ≤ suc d → chunks (length s) ≤ suc e → tree_in d s t f ≡ tree_in e s t f
deep zero e s t f h w = one 0 s t f (omega arith) ∙ sym (one e s t f (omega arith))
deep (suc d) zero s t f h w = one (suc d) s t f (omega arith) ∙ sym (one 0 s t f (omega arith))
deep (suc d) (suc e) s t f h w = by (leb (length s) CHUNK_LEN) refl (deep d e)
  where
    by : (b : Bool) → leb (length s) CHUNK_LEN ≡ b
        → ((s : List ℕ) (t f : ℕ) → chunks (length s) ≤ suc d → chunks (length s) ≤ suc e → tree_in d s t f ≡ tree_in e s t f)
        → tree_in (suc d) s t f ≡ tree_in (suc e) s t f
    by true q r = let g : length s ≤ CHUNK_LEN = leb-true (length s) CHUNK_LEN q in one (suc d) s t f g ∙ sym (one (suc e) s t f g)
    by false q r =
        let g : CHUNK_LEN < length s = leb-false (length s) CHUNK_LEN q in
        let k : ℕ = left_chunks (chunks (length s)) in
        let p : Largest (chunks (length s)) k = left-largest (chunks (length s)) (omega arith) in
        let x = left-chunks s t f k g p in
        let y = right-chunks s t f k g p in
        let z = some (length s) k g p in
        more s t f k g p d
        ∙ ap₂ (λ (x y : List ℕ). parent x y f)
        (r (take (CHUNK_LEN * k) s) t 0 (omega (arith, p.below)) (omega (arith, p.below)))
        (r (drop (CHUNK_LEN * k) s) (t + k) 0 (omega arith) (omega arith))
        ∙ sym (more s t f k g p e)

pub tree-chunk : (s : List ℕ) (t f : ℕ) → length s ≤ CHUNK_LEN → tree s t f ≡ chunk s t f
unfolding tree
tree-chunk s t f h = one (chunks (length s)) s t f h

pub tree-parent : (s : List ℕ) (t f k : ℕ) → CHUNK_LEN < length s → Largest (chunks (length s)) k
    → tree s t f ≡ parent (tree (take (CHUNK_LEN * k) s) t 0) (tree (drop (CHUNK_LEN * k) s) (t + k) 0) f
unfolding tree
tree-parent s t f k h p =
    let d : ℕ = (length s - 1) / CHUNK_LEN in
    let x = left-chunks s t f k h p in
    let y = right-chunks s t f k h p in
    let z = some (length s) k h p in
    ap (λ (n : ℕ). tree_in n s t f) (add-one d)
    ∙ more s t f k h p d
    ∙ ap₂ (λ (x y : List ℕ). parent x y f)
    (deep d (chunks (length (take (CHUNK_LEN * k) s))) (take (CHUNK_LEN * k) s) t 0 (omega (arith, p.below)) (omega arith))
    (deep d (chunks (length (drop (CHUNK_LEN * k) s))) (drop (CHUNK_LEN * k) s) (t + k) 0 (omega arith) (omega arith))

-- the same of a part of a list, its two parts given by where they start
pub tree-parts : (m : List ℕ) (from len t f k n : ℕ) (l r : List ℕ) → from + len ≤ length m → CHUNK_LEN < len → Largest (chunks len) k
    → n ≡ CHUNK_LEN * k
    → l ≡ tree (get from n m) t 0 → r ≡ tree (get (from + n) (len - n) m) (t + k) 0
    → parent l r f ≡ tree (get from len m) t f
tree-parts m from len t f k n l r h w p e el er =
    let i = inside len k w p in
    let a : length (get from len m) ≡ len = length-get from len m h in
    let x : take (CHUNK_LEN * k) (get from len m) ≡ get from n m =
    take-take (CHUNK_LEN * k) len (drop from m) (omega arith) ∙ ap (λ (j : ℕ). get from j m) (sym e) in
    let y : drop (CHUNK_LEN * k) (get from len m) ≡ get (from + n) (len - n) m =
    ap (λ (j : ℕ). drop j (get from len m)) (sym e) ∙ drop_get from len n m (omega arith) in
    ap₂ (λ (u v : List ℕ). parent u v f)
    (el ∙ ap (λ (u : List ℕ). tree u t 0) (sym x))
    (er ∙ ap (λ (u : List ℕ). tree u (t + k) 0) (sym y))
    ∙ sym (tree-parent (get from len m) t f k (omega arith) (rw a p))

pub tree-leaf : (m : List ℕ) (from len t f : ℕ) {r : List ℕ} → from + len ≤ length m → len ≤ CHUNK_LEN
    → r ≡ chunk (get from len m) t f → r ≡ tree (get from len m) t f
tree-leaf m from len t f h w e = e ∙ sym (tree-chunk (get from len m) t f (omega (arith, length-get from len m h)))

-- ---- whole chunks side by side

-- two of them
two : (m : List ℕ) (a t : ℕ) → a + 2 * CHUNK_LEN ≤ length m
    → parent (chunk (get a CHUNK_LEN m) t 0) (chunk (get (a + CHUNK_LEN) CHUNK_LEN m) (t + 1) 0) 0 ≡ tree (get a (2 * CHUNK_LEN) m) t 0
two m a t h =
    tree-parts m a (2 * CHUNK_LEN) t 0 1 CHUNK_LEN _ _ h (omega arith)
    (record { power = power-one; below = omega arith; next = omega arith }) refl
    (tree-leaf m a CHUNK_LEN t 0 (omega arith) (omega arith) refl)
    (tree-leaf m (a + CHUNK_LEN) CHUNK_LEN (t + 1) 0 (omega arith) (omega arith) refl)

-- four of them, over which there are two parents and theirs
pub tree-four : (s : List ℕ) (t f : ℕ) → length s ≡ WINDOW → four s t f ≡ tree s t f
unfolding four
tree-four s t f h =
    let first : t + 0 ≡ t = omega arith in
    let last : t + 3 ≡ t + 2 + 1 = omega arith in
    ap₂ (λ (u v : ℕ).
    parent (parent (chunk (get 0 CHUNK_LEN s) u 0) (chunk (get 1024 CHUNK_LEN s) (t + 1) 0) 0)
    (parent (chunk (get 2048 CHUNK_LEN s) (t + 2) 0) (chunk (get 3072 CHUNK_LEN s) v 0) 0) f) first last
    ∙ tree-parts s 0 WINDOW t f 2 2048 _ _ (omega arith) (omega arith)
    (record { power = power-double 1 power-one; below = omega arith; next = omega arith }) refl
    (two s 0 t (omega arith)) (two s 2048 (t + 2) (omega arith))
    ∙ ap (λ (m : List ℕ). tree m t f) (take_all WINDOW s (omega arith))

-- the same of a part that is lent
pub tree-window : (s : List ℕ) (from t f : ℕ) → from + WINDOW ≤ length s
    → four (take (from + WINDOW - from) (drop from s)) t f ≡ tree (get from WINDOW s) t f
tree-window s from t f h =
    let e : from + WINDOW - from ≡ WINDOW = omega arith in
    ap (λ (n : ℕ). four (take n (drop from s)) t f) e ∙ tree-four (get from WINDOW s) t f (length-get from WINDOW s h)
