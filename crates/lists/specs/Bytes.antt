-- `Bytes s`: every element of s is below 256. (Past the end get_or gives 0, so no length is asked for.)
use Rattle.std.specs.Prelude.{List, [], ◌∷◌, ◌++◌, ℕ, zero, suc, ◌+◌, ◌<◌, get_or, take, drop, set, replicate}
use Rattle.std.proofs.Common.{le_refl, arith, get_or-drop}
use Rattle.lists.specs.Over.{tab, cat}
use Rattle.lists.specs.Sect.{get}

abbrev pub Bytes : List ℕ → Type 0
Bytes s = (i : ℕ) → get_or s i 0 < 256

pub bytes-nil : Bytes []
bytes-nil i = omega arith

pub bytes-cons : (a : ℕ) (s : List ℕ) → a < 256 → Bytes s → Bytes (a ∷ s)
bytes-cons a s h hs zero = h
bytes-cons a s h hs (suc i) = hs i

pub bytes_take : (n : ℕ) (s : List ℕ) → Bytes s → Bytes (take n s)
bytes_take zero s h i = omega arith
bytes_take (suc n) [] h i = omega arith
bytes_take (suc n) (a ∷ s) h zero = h zero
bytes_take (suc n) (a ∷ s) h (suc i) = bytes_take n s (λ j. h (suc j)) i

pub bytes_drop : (n : ℕ) (s : List ℕ) → Bytes s → Bytes (drop n s)
bytes_drop n s h i = rw (get_or-drop n s i 0) (h (n + i))

pub bytes-append : (s t : List ℕ) → Bytes s → Bytes t → Bytes (s ++ t)
bytes-append [] t h k i = k i
bytes-append (a ∷ s) t h k zero = h zero
bytes-append (a ∷ s) t h k (suc i) = bytes-append s t (λ j. h (suc j)) k i

pub bytes-set : (s : List ℕ) (at v : ℕ) → Bytes s → v < 256 → Bytes (set s at v)
bytes-set [] at v h k = bytes-nil
bytes-set (a ∷ s) zero v h k = bytes-cons v s k (λ j. h (suc j))
bytes-set (a ∷ s) (suc at) v h k = bytes-cons a (set s at v) (h zero) (bytes-set s at v (λ j. h (suc j)) k)

pub bytes-replicate : (n a : ℕ) → a < 256 → Bytes (replicate n a)
bytes-replicate zero a h = bytes-nil
bytes-replicate (suc n) a h = bytes-cons a (replicate n a) h (bytes-replicate n a h)

pub bytes-tab : (n : ℕ) (f : ℕ → ℕ) → ((i : ℕ) → i < n → f i < 256) → Bytes (tab n f)
unfolding tab
bytes-tab zero f h = bytes-nil
bytes-tab (suc n) f h =
    bytes-append (tab n f) (f n ∷ []) (bytes-tab n f (λ i l. h i (omega arith))) (bytes-cons (f n) [] (h n (le_refl (suc n))) bytes-nil)

pub bytes-cat : (n : ℕ) (g : ℕ → List ℕ) → ((j : ℕ) → j < n → Bytes (g j)) → Bytes (cat n g)
unfolding cat
bytes-cat zero g h = bytes-nil
bytes-cat (suc n) g h = bytes-append (cat n g) (g n) (bytes-cat n g (λ j l. h j (omega arith))) (h n (le_refl (suc n)))

pub bytes-get : (a k : ℕ) (s : List ℕ) → Bytes s → Bytes (get a k s)
bytes-get a k s h = bytes_take k (drop a s) (bytes_drop a s h)
