-- A buffer in numbered sections, each as long as a table says, and the stretches of an outgoing buffer.
use Rattle.std.specs.Prelude.{◌≡◌, Bool, ◌≢◌, List, [], ◌∷◌, ◌++◌, get_or, drop, eqb}
use Rattle.std.proofs.Math.Path.{refl, ap, ap₂, subst}
use Rattle.std.proofs.Common.{sym, ◌∙◌, append_assoc, le_refl, mul_comm, length-drop, take-append-drop, take_at, drop_at, take-take, drop-drop, take-add, length-take-le}
use Rattle.std.proofs.Math.Bool.{true, false}
use Prim.Native.Nat.{ℕ, zero, suc, ◌+◌, ◌-◌, ◌*◌, ◌<◌, ◌≤◌, min}
use native.Mathlib.Omega.{arith}
use Rattle.std.proofs.Math.ListN.{length, take, length-append, length-take}
use Rattle.std.proofs.lemmas.List.{drop-append-le}
use Rattle.std.proofs.Math.Dec.{ltb}
use borrow.Author.Tests.{ltb-true, ltb-false, le-ltb, eqb-true}
use Rattle.lists.specs.Pick.{pick}
use Rattle.lists.specs.Over.{cat, length-cat}
use Rattle.lists.specs.All.{true-false}
use Rattle.lists.specs.Rows.{cat-part, chunk, chunk-cat, cat-ext}
use Rattle.lists.specs.Sect.{get, put, length-put, get-put-same, get-put-before, get-put-after, drop-take-add}
use Rattle.engine.specs.Step.{stretch}

-- ---- parts of parts
module _ {A : Type 0} where
  -- k elements from a on, of the m elements from o on
  pub get-get : (o m a k : ℕ) (w : List A) → a + k ≤ m → get a k (get o m w) ≡ get (o + a) k w
  get-get o m a k w h =
      ap (λ j. take k (drop a (take j (drop o w)))) (let e : m ≡ a + (m - a) = omega arith in e)
      ∙ ap (take k) (drop-take-add a (m - a) (drop o w))
      ∙ take-take k (m - a) (drop a (drop o w)) (omega arith)
      ∙ ap (take k) (drop-drop a o w)

  pub put-put-in : (o m a k : ℕ) (xs w : List A) → a + k ≤ m → o + m ≤ length w → put (o + a) k xs w ≡ put o m (put a k xs (get o m w)) w
  put-put-in o m a k xs w h l =
      let y : List A = get o m w in
      let z : List A = drop m (drop o w) in
      let ly : length y ≡ m = length-take m (drop o w) ∙ ap (min m) (length-drop o w) ∙ (omega arith) in
      let t : take (o + a) w ≡ take o w ++ take a y =
      take-add o a w ∙ ap (λ (r : List A). take o w ++ r) (sym (take-take a m (drop o w) (omega arith))) in
      let d : drop k (drop (o + a) w) ≡ drop k (drop a y) ++ z =
      ap (drop k) (sym (drop-drop a o w)) ∙ ap (λ (r : List A). drop k (drop a r)) (sym (take-append-drop m (drop o w)))
      ∙ ap (drop k) (drop-append-le a y z (omega arith)) ∙ drop-append-le k (drop a y) z (rw (length-drop a y) (omega arith)) in
      ap₂ (λ (p r : List A). p ++ (xs ++ r)) t d ∙ append_assoc (take o w) (take a y) _
      ∙ ap (λ (r : List A). take o w ++ r)
      (ap (λ (r : List A). take a y ++ r) (sym (append_assoc xs (drop k (drop a y)) z))
      ∙ sym (append_assoc (take a y) (xs ++ drop k (drop a y)) z))

  -- what is put first is lost
  pub put-twice : (o m : ℕ) (xs ys w : List A) → length ys ≡ m → o ≤ length w → put o m xs (put o m ys w) ≡ put o m xs w
  put-twice o m xs ys w h l =
      let z : List A = drop m (drop o w) in
      let lo : length (take o w) ≡ o = length-take-le o w l in
      ap₂ (λ (p r : List A). p ++ (xs ++ r)) (take_at (take o w) (ys ++ z) o lo)
      (ap (drop m) (drop_at (take o w) (ys ++ z) o lo) ∙ drop_at ys z m h)

-- ---- sections
module _ (size : ℕ → ℕ) where
  -- where section s starts
  unfoldable pub off : ℕ → ℕ
  off zero = 0
  off (suc s) = off s + size s

  unfoldable pub sec : ℕ → List ℕ → List ℕ
  sec s w = get (off s) (size s) w

  unfoldable pub put_sec : ℕ → List ℕ → List ℕ → List ℕ
  put_sec s xs w = put (off s) (size s) xs w

  off-le : (s t : ℕ) → s ≤ t → off s ≤ off t
  unfolding off
  off-le s zero h = rw (let e : s ≡ 0 = omega arith in e) (omega arith)
  off-le s (suc t) h = go (ltb t s) refl (off-le s t)
    where
      go : (b : Bool) → ltb t s ≡ b → (s ≤ t → off s ≤ off t) → off s ≤ off t + size t
      go true e ih = subst (λ i. off i ≤ off t + size t) (let p : suc t ≡ s = omega (arith, ltb-true t s e) in p) (le_refl (off t + size t))
      go false e ih = omega (arith, ih (ltb-false t s e))

  -- section s ends before a later one starts
  pub section-before : (s t : ℕ) → s < t → off s + size s ≤ off t
  unfolding off
  section-before s t h = off-le (suc s) t h

  module _ (S : ℕ) (w : List ℕ) (h : length w ≡ off S) where
    pub length-sec : (s : ℕ) → s < S → length (sec s w) ≡ size s
    unfolding sec
    length-sec s l =
        length-take (size s) (drop (off s) w) ∙ ap (min (size s)) (length-drop (off s) w) ∙ (let e = section-before s S l in omega (arith, e))

    pub length-put_sec : (s : ℕ) (xs : List ℕ) → s < S → length xs ≡ size s → length (put_sec s xs w) ≡ off S
    unfolding put_sec
    length-put_sec s xs l hx = length-put (off s) (size s) xs w hx (omega (arith, section-before s S l)) ∙ h

    pub sec-same : (s : ℕ) (xs : List ℕ) → s < S → length xs ≡ size s → sec s (put_sec s xs w) ≡ xs
    unfolding sec put_sec
    sec-same s xs l hx = get-put-same (off s) (size s) xs w hx (omega (arith, section-before s S l))

    pub sec-other : (s t : ℕ) (xs : List ℕ) → t < S → s ≢ t → length xs ≡ size t → sec s (put_sec t xs w) ≡ sec s w
    unfolding sec put_sec
    sec-other s t xs l ne hx = go (ltb s t) refl
      where
        go : (b : Bool) → ltb s t ≡ b → get (off s) (size s) (put (off t) (size t) xs w) ≡ get (off s) (size s) w
        go true e = get-put-before (off s) (size s) (off t) (size t) xs w (section-before s t (ltb-true s t e)) (omega (arith, section-before t S l))
        go false e =
            let q = section-before t s (omega (arith, ltb-false s t e, ne)) in
            get-put-after (off s) (size s) (off t) (size t) xs w hx q (omega (arith, section-before t S l))

    -- putting a section twice, and two sections in either order
    pub put_sec-twice : (s : ℕ) (xs ys : List ℕ) → s < S → length ys ≡ size s → put_sec s xs (put_sec s ys w) ≡ put_sec s xs w
    unfolding put_sec
    put_sec-twice s xs ys l hy = put-twice (off s) (size s) xs ys w hy (omega (arith, section-before s S l))

    -- writing a part of a section, and one element of it
    pub put-sec : (s a k : ℕ) (xs : List ℕ) → s < S → a + k ≤ size s → put (off s + a) k xs w ≡ put_sec s (put a k xs (sec s w)) w
    unfolding sec put_sec
    put-sec s a k xs l h' = put-put-in (off s) (size s) a k xs w h' (omega (arith, section-before s S l))

  -- a buffer laid out section by section
  pub length-lay : (S : ℕ) (c : ℕ → List ℕ) → ((s : ℕ) → s < S → length (c s) ≡ size s) → length (cat S c) ≡ off S
  unfolding cat off
  length-lay zero c h = refl
  length-lay (suc S) c h = length-append (cat S c) (c S) ∙ ap₂ ◌+◌ (length-lay S c (λ s l. h s (omega arith))) (h S (le_refl (suc S)))

  pub sec-lay : (S : ℕ) (c : ℕ → List ℕ) → ((s : ℕ) → s < S → length (c s) ≡ size s) → (s : ℕ) → s < S → sec s (cat S c) ≡ c s
  unfolding sec
  sec-lay S c h s l =
      ap₂ (λ a k. take k (drop a (cat S c))) (sym (length-lay s c (λ t m. h t (omega arith)))) (sym (h s l)) ∙ cat-part S c s l

-- ---- one message to each other party
-- the q-th party but i
unfoldable pub nth : ℕ → ℕ → ℕ
nth i q = pick (ltb q i) q (q + 1)

unfoldable pub to_others : ℕ → ℕ → (ℕ → List ℕ) → List ℕ
to_others n i g = cat (n - 1) (λ q. g (nth i q))

-- nth i goes through all parties but i, each once
nth-by : {C : Type 0} (i q : ℕ) → (q < i → nth i q ≡ q → C) → (i ≤ q → nth i q ≡ q + 1 → C) → C
unfolding nth
nth-by {C} i q low high = go (ltb q i) refl
  where
    go : (b : Bool) → ltb q i ≡ b → C
    go true e = low (ltb-true q i e) (ap (λ b. pick b q (q + 1)) e)
    go false e = high (ltb-false q i e) (ap (λ b. pick b q (q + 1)) e)

pub nth-skips : (i q : ℕ) → nth i q ≢ i
nth-skips i q = nth-by i q (λ h e. omega arith) (λ h e. omega arith)

pub nth-below : (n i q : ℕ) → q < n - 1 → nth i q < n
nth-below n i q l = nth-by i q (λ h e. omega arith) (λ h e. omega arith)

pub nth-once : (i p q : ℕ) → nth i p ≡ nth i q → p ≡ q
nth-once i p q x =
    nth-by i p (λ h e. nth-by i q (λ h2 e2. omega arith) (λ h2 e2. omega arith)) (λ h e. nth-by i q (λ h2 e2. omega arith) (λ h2 e2. omega arith))

-- where party i's message stands among those of party j
slot : ℕ → ℕ → ℕ
slot j i = pick (ltb i j) i (i - 1)

slot_lt : (n j i : ℕ) → j < n → i < n → j ≢ i → slot j i < n - 1
unfolding slot
slot_lt n j i lj li ne = go (ltb i j) refl
  where
    go : (b : Bool) → ltb i j ≡ b → pick b i (i - 1) < n - 1
    go true e = omega (arith, ltb-true i j e)
    go false e = omega (arith, ltb-false i j e)

slot-nth : (j i : ℕ) → j ≢ i → nth j (slot j i) ≡ i
unfolding nth slot
slot-nth j i ne = go (ltb i j) refl
  where
    go : (b : Bool) → ltb i j ≡ b → pick (ltb (pick b i (i - 1)) j) (pick b i (i - 1)) (pick b i (i - 1) + 1) ≡ i
    go true e = rw e refl
    go false e = rw (le-ltb (i - 1) j (omega (arith, ltb-false i j e))) (omega (arith, ltb-false i j e))

pub nth-onto : (n i j : ℕ) → i < n → j < n → j ≢ i → (q : ℕ) × (q < n - 1) × (nth i q ≡ j)
nth-onto n i j li lj ne = (slot i j, slot_lt n i j li lj (λ e. ne (sym e)), slot-nth i j (λ e. ne (sym e)))

pub to_others-ext : (n j : ℕ) (g h : ℕ → List ℕ) → ((k : ℕ) → k < n → j ≢ k → g k ≡ h k) → to_others n j g ≡ to_others n j h
unfolding to_others
to_others-ext n j g h e = cat-ext (n - 1) _ _ (λ q l. e (nth j q) (nth-below n j q l) (λ e. nth-skips j q (sym e)))

module _ (m n j : ℕ) (g : ℕ → List ℕ) (h : (k : ℕ) → k < n → j ≢ k → length (g k) ≡ m) where
  pub length-to_others : length (to_others n j g) ≡ (n - 1) * m
  unfolding to_others
  length-to_others = length-cat (n - 1) m (λ q. g (nth j q)) (λ q l. h (nth j q) (nth-below n j q l) (λ e. nth-skips j q (sym e)))

  -- what party i finds in its stretch
  pub stretch-to_others : (i : ℕ) → j < n → i < n → j ≢ i → stretch m j i (to_others n j g) ≡ g i
  unfolding stretch to_others chunk slot
  stretch-to_others i lj li ne =
      let at : ℕ = slot j i in
      let each : (q : ℕ) → q < n - 1 → length (g (nth j q)) ≡ m = λ q l. h (nth j q) (nth-below n j q l) (λ e. nth-skips j q (sym e)) in
      ap (λ a. take m (drop a (cat (n - 1) (λ q. g (nth j q))))) (mul_comm m at)
      ∙ chunk-cat m (n - 1) (λ q. g (nth j q)) each at (slot_lt n j i lj li ne)
      ∙ ap g (slot-nth j i ne)

-- ---- lists of sections or rounds
-- s is in the list
unfoldable pub mem : ℕ → List ℕ → Bool
mem s [] = false
mem s (t ∷ ts) = pick (eqb s t) true (mem s ts)

-- a property of every entry of a list
abbrev pub Every : (ℕ → Type 0) → List ℕ → Type 0
Every Q [] = Unit {0}
Every Q (a ∷ l) = Q a × Every Q l

-- one entry more
pub also : {A B : Type 0} → A → B → A × B
also a b = (a, b)

pub every-at : (Q : ℕ → Type 0) (l : List ℕ) (z : ℕ) → Every Q l → (d : ℕ) → d < length l → Q (get_or l d z)
every-at Q [] z h d i = absurd (omega arith)
every-at Q (a ∷ l) z h zero i = h.0
every-at Q (a ∷ l) z h (suc d) i = every-at Q l z h.1 d (omega arith)

pub every-mem : (Q : ℕ → Type 0) (ts : List ℕ) → Every Q ts → (s : ℕ) → mem s ts ≡ true → Q s
unfolding mem
every-mem Q [] h s e = absurd (true-false (sym e))
every-mem Q (t ∷ ts) h s e = go (eqb s t) refl e (every-mem Q ts h.1 s)
  where
    go : (b : Bool) → eqb s t ≡ b → pick b true (mem s ts) ≡ true → (mem s ts ≡ true → Q s) → Q s
    go true q e ih = subst Q (sym (eqb-true s t q)) h.0
    go false q e ih = ih e
