-- Laws about the format: what a length that isn't 0 says of the bytes, where items begin, what a list of the right form holds.
use Rattle.std.specs.Prelude.{◌≡◌, Bool, ◌&&◌, List, length, get_or, take, drop, eqb}
use Rattle.std.proofs.Math.Path.{refl, ap}
use Rattle.std.proofs.Common.{sym, ap₂, ◌∙◌, add-one}
use Rattle.std.proofs.Math.Bool.{true, false}
use Prim.Native.Nat.{ℕ, zero, suc, ◌+◌, ◌-◌, ◌*◌, ◌<◌, ◌≤◌}
use native.Mathlib.Omega.{arith}
use Rattle.std.proofs.Math.ListN.{length-drop, get_or-eq_default}
use Rattle.std.proofs.Math.Dec.{ltb, leb}
use borrow.Author.Tests.{lt-ltb, le-ltb, le-leb, lt-leb, eq-eqb, ne_eqb, ltb-true, ltb-false, leb-true, leb-false, eqb-false}
use Rattle.lists.specs.Pick.{pick}
use Rattle.lists.specs.All.{all_of, all_of_lem, of-all, all-false, all-ext, and_first, and_second}
use Rattle.lists.specs.Over.{length-tab, get_or-tab}
use Rattle.lists.specs.Sect.{length-get}
use Rattle.block.specs.Block.{word_at}
use Rattle.message.specs.declared.Kind.{Kind}
use Rattle.message.specs.declared.Kind.TheVariants.{Items, Dms, Dvalues, Options}
use Rattle.message.specs.Format.{bools, vec_len, both_len, item_len, item_at, count_of, decodes, Absent, bits, item_of, value_of}
use Rattle.message.specs.Format.{Undecoded, Value, read_of, both_due, item_due, counts_due}

-- ---- two tests at once
pub and-true : (a b : Bool) → a ≡ true → b ≡ true → (a && b) ≡ true
and-true a b p q = ap₂ ◌&&◌ p q

pub first-false : (a b : Bool) → a ≡ false → (a && b) ≡ false
first-false a b p = ap (λ (x : Bool). x && b) p

pub second-false : (a b : Bool) → b ≡ false → (a && b) ≡ false
second-false true b q = q
second-false false b q = refl

-- a number that isn't 0 was picked by a test that held
not-zero : (n : ℕ) → 0 < n → 0 ≡ n → ⊥
not-zero n h e = omega arith

picked : (b : Bool) (n : ℕ) → 0 < pick b n 0 → (b ≡ true) × (pick b n 0 ≡ n)
picked true n h = (refl, refl)
picked false n h = absurd (omega arith)

-- ---- bools
module _ (s : List ℕ) where
  pub bools-of : (c : ℕ) → ((k : ℕ) → k < c → get_or s k 0 ≤ 1) → bools c s ≡ true
  unfolding bools
  bools-of c h = all_of_lem c (λ k. leb (get_or s k 0) 1) (λ k l. le-leb (get_or s k 0) 1 (h k l))

  pub of-bools : (c : ℕ) → bools c s ≡ true → (k : ℕ) → k < c → get_or s k 0 ≤ 1
  unfolding bools
  of-bools c h k l = leb-true (get_or s k 0) 1 (of-all c (λ k. leb (get_or s k 0) 1) h k l)

  pub bools-false : (c k : ℕ) → k < c → 1 < get_or s k 0 → bools c s ≡ false
  unfolding bools
  bools-false c k l h = all-false c (λ k. leb (get_or s k 0) 1) k l (lt-leb (get_or s k 0) 1 h)

  -- past the end there is nothing to look at
  pub bools-past : (c : ℕ) → length s ≤ c → bools (length s) s ≡ bools c s
  bools-past c h = go (bools (length s) s) refl (bools c s) refl
    where
      all : bools (length s) s ≡ true → (k : ℕ) → (b : Bool) → ltb k (length s) ≡ b → get_or s k 0 ≤ 1
      all e k true q = of-bools (length s) e k (ltb-true k (length s) q)
      all e k false q = let z : get_or s k 0 ≡ 0 = get_or-eq_default s 0 (ltb-false k (length s) q) in omega arith

      go : (a : Bool) → bools (length s) s ≡ a → (b : Bool) → bools c s ≡ b → a ≡ b
      go true e true f = refl
      go true e false f = sym (bools-of c (λ k l. all e k (ltb k (length s)) refl)) ∙ f
      go false e true f = sym e ∙ bools-of (length s) (λ k l. of-bools c f k (omega arith))
      go false e false f = refl

-- ---- a list of items of a fixed size
pub record Held (size : ℕ) (s : List ℕ) : Type 0 where
  pub is : vec_len size s ≡ 8 + word_at s 0 * size
  pub fits : 8 + word_at s 0 * size ≤ length s

module _ (size : ℕ) (s : List ℕ) where
  pub vec-some : 8 + word_at s 0 * size ≤ length s → vec_len size s ≡ 8 + word_at s 0 * size
  unfolding vec_len
  vec-some h =
      ap (λ (b : Bool). pick b (8 + word_at s 0 * size) 0)
      (and-true _ _ (le-leb 8 (length s) (omega arith)) (le-leb (word_at s 0 * size) (length s - 8) (omega arith)))

  pub vec-none : length s < 8 + word_at s 0 * size → vec_len size s ≡ 0
  unfolding vec_len
  vec-none h = ap (λ (b : Bool). pick b (8 + word_at s 0 * size) 0) (go (leb 8 (length s)) refl)
    where
      go : (b : Bool) → leb 8 (length s) ≡ b → (b && leb (word_at s 0 * size) (length s - 8)) ≡ false
      go true e = lt-leb (word_at s 0 * size) (length s - 8) (omega (arith, leb-true 8 (length s) e))
      go false e = refl

  pub vec-held : 0 < vec_len size s → Held size s
  vec-held h = go (leb (8 + word_at s 0 * size) (length s)) refl
    where
      go : (b : Bool) → leb (8 + word_at s 0 * size) (length s) ≡ b → Held size s
      go true e = let l = leb-true (8 + word_at s 0 * size) (length s) e in record { is = vec-some l; fits = l }
      go false e = absurd (omega (arith, vec-none (leb-false (8 + word_at s 0 * size) (length s) e)))

  pub vec-le : vec_len size s ≤ length s
  vec-le = go (ltb 0 (vec_len size s)) refl
    where
      go : (b : Bool) → ltb 0 (vec_len size s) ≡ b → vec_len size s ≤ length s
      go true e = let w = vec-held (ltb-true 0 (vec_len size s) e) in omega (arith, w.is, w.fits)
      go false e = omega (arith, ltb-false 0 (vec_len size s) e)

-- ---- one item, kind by kind
-- a fixed number of bytes
pub record Plain (size c : ℕ) (s : List ℕ) : Type 0 where
  pub is : item_len (Items size c) s ≡ size
  pub fits : size ≤ length s
  pub bits : bools c s ≡ true

module _ (size c : ℕ) (s : List ℕ) where
  pub items-some : size ≤ length s → bools c s ≡ true → item_len (Items size c) s ≡ size
  unfolding item_len
  items-some h e = ap (λ (b : Bool). pick b size 0) (and-true (leb size (length s)) (bools c s) (le-leb size (length s) h) e)

  pub items-short : length s < size → item_len (Items size c) s ≡ 0
  unfolding item_len
  items-short h = ap (λ (b : Bool). pick b size 0) (first-false (leb size (length s)) (bools c s) (lt-leb size (length s) h))

  pub items-not : bools c s ≡ false → item_len (Items size c) s ≡ 0
  unfolding item_len
  items-not e = ap (λ (b : Bool). pick b size 0) (second-false (leb size (length s)) (bools c s) e)

  pub items-held : 0 < item_len (Items size c) s → Plain size c s
  unfolding item_len
  items-held h =
      let p = picked (leb size (length s) && bools c s) size h in
      record {
        is = p.1;
        fits = leb-true size (length s) (and_first (leb size (length s)) (bools c s) p.0);
        bits = and_second (leb size (length s)) (bools c s) p.0;
      }

-- a bucket's d values and their MACs
pub record Bucket (due : ℕ) (s : List ℕ) : Type 0 where
  pub ds : Held 1 s
  pub bits : bools (word_at s 0) (drop 8 s) ≡ true
  pub macs : Held 16 (drop (8 + word_at s 0) s)
  pub is : item_len (Dvalues due) s ≡ vec_len 1 s + vec_len 16 (drop (8 + word_at s 0) s)

both_some : (a b : ℕ) → 0 < a → 0 < b → both_len a b ≡ a + b
both_some a b h k = rw (ne_eqb a 0 (λ e. omega arith), ne_eqb b 0 (λ e. omega arith))

both-none : (a b : ℕ) → b ≡ 0 → both_len a b ≡ 0
both-none a b e = go (eqb a 0)
  where
    go : (t : Bool) → pick t 0 (pick (eqb b 0) 0 (a + b)) ≡ 0
    go true = refl
    go false = rw (eq-eqb b 0 e)

both-held : (a b : ℕ) → 0 < both_len a b → (0 < a) × (0 < b)
both-held a b h = go (eqb a 0) refl (eqb b 0) refl h
  where
    go : (t : Bool) → eqb a 0 ≡ t → (u : Bool) → eqb b 0 ≡ u → 0 < pick t 0 (pick u 0 (a + b)) → (0 < a) × (0 < b)
    go true e u f h = absurd (omega arith)
    go false e true f h = absurd (omega arith)
    go false e false f h = let n = eqb-false a 0 e in let k = eqb-false b 0 f in (omega arith, omega arith)

module _ (due : ℕ) (s : List ℕ) where
  pub bucket-some : 0 < vec_len 1 s → bools (word_at s 0) (drop 8 s) ≡ true → 0 < vec_len 16 (drop (8 + word_at s 0) s)
      → item_len (Dvalues due) s ≡ vec_len 1 s + vec_len 16 (drop (8 + word_at s 0) s)
  unfolding item_len
  bucket-some h e k =
      ap (λ (b : Bool). both_len (pick b (vec_len 1 s) 0) (vec_len 16 (drop (8 + word_at s 0) s))) e
      ∙ both_some (vec_len 1 s) (vec_len 16 (drop (8 + word_at s 0) s)) h k

  pub bucket-short : vec_len 1 s ≡ 0 → item_len (Dvalues due) s ≡ 0
  unfolding item_len
  bucket-short e = go (bools (word_at s 0) (drop 8 s))
    where
      go : (b : Bool) → both_len (pick b (vec_len 1 s) 0) (vec_len 16 (drop (8 + word_at s 0) s)) ≡ 0
      go true = rw (eq-eqb (vec_len 1 s) 0 e)
      go false = refl

  pub bucket-not : bools (word_at s 0) (drop 8 s) ≡ false → item_len (Dvalues due) s ≡ 0
  unfolding item_len
  bucket-not e = ap (λ (b : Bool). both_len (pick b (vec_len 1 s) 0) (vec_len 16 (drop (8 + word_at s 0) s))) e

  pub bucket-bare : vec_len 16 (drop (8 + word_at s 0) s) ≡ 0 → item_len (Dvalues due) s ≡ 0
  unfolding item_len
  bucket-bare e = both-none (pick (bools (word_at s 0) (drop 8 s)) (vec_len 1 s) 0) (vec_len 16 (drop (8 + word_at s 0) s)) e

  pub bucket-held : 0 < item_len (Dvalues due) s → Bucket due s
  unfolding item_len
  bucket-held h =
      let b = both-held (pick (bools (word_at s 0) (drop 8 s)) (vec_len 1 s) 0) (vec_len 16 (drop (8 + word_at s 0) s)) h in
      let p = picked (bools (word_at s 0) (drop 8 s)) (vec_len 1 s) b.0 in
      let l : 0 < vec_len 1 s = omega (arith, b.0, p.1) in
      record { ds = vec-held 1 s l; bits = p.0; macs = vec-held 16 (drop (8 + word_at s 0) s) b.1; is = bucket-some l p.0 b.1 }

  -- the bytes of a bucket
  pub bucket-bytes : (w : Bucket due s) → item_len (Dvalues due) s ≡ 16 + word_at s 0 + word_at (drop (8 + word_at s 0) s) 0 * 16
  bucket-bytes w = w.is ∙ omega (arith, w.ds.is, w.macs.is)

  pub bucket-le : (w : Bucket due s) → item_len (Dvalues due) s ≤ length s
  bucket-le w = omega (arith, bucket-bytes w, w.ds.fits, w.macs.fits, length-drop (8 + word_at s 0) s)

-- the counts of a bucket's lists, as the bytes tell them
pub bucket-due : (due : ℕ) (s : List ℕ) → 0 < item_len (Dvalues due) s
    → item_due (Dvalues due) (item_of (Dvalues due) s) ≡ (eqb (word_at s 0) due && eqb (word_at s (8 + word_at s 0)) due)
unfolding item_due both_due item_of bits
bucket-due due s h =
    let w = bucket-held due s h in
    ap₂ (λ a b. eqb a due && eqb b due)
    (length-tab (length (take (word_at s 0) (drop 8 s))) _ ∙ length-get 8 (word_at s 0) s (omega (arith, w.ds.fits)))
    (length-tab (word_at s (8 + word_at s 0)) _)

option-le : (s : List ℕ) → item_len Options s ≤ length s
unfolding item_len
option-le s = go (ltb 0 (length s)) refl (eqb (get_or s 0 0) 0) (eqb (get_or s 0 0) 1) (leb 17 (length s)) refl
  where
    go : (b : Bool) → ltb 0 (length s) ≡ b → (z u r : Bool) → leb 17 (length s) ≡ r → pick b (pick z 1 (pick (u && r) 17 0)) 0 ≤ length s
    go true e true u r f = ltb-true 0 (length s) e
    go true e false true true f = leb-true 17 (length s) f
    go true e false true false f = omega arith
    go true e false false r f = omega arith
    go false e z u r f = omega arith

-- an item lies within what is left
pub item-le : (K : Kind) (s : List ℕ) → item_len K s ≤ length s
unfolding item_len
item-le (Items size c) s = go (ltb 0 (item_len (Items size c) s)) refl
  where
    go : (b : Bool) → ltb 0 (item_len (Items size c) s) ≡ b → item_len (Items size c) s ≤ length s
    go true e = let w = items-held size c s (ltb-true 0 (item_len (Items size c) s) e) in omega (arith, w.is, w.fits)
    go false e = omega (arith, ltb-false 0 (item_len (Items size c) s) e)
item-le Dms s = vec-le 1 s
item-le (Dvalues due) s = go (ltb 0 (item_len (Dvalues due) s)) refl
  where
    go : (b : Bool) → ltb 0 (item_len (Dvalues due) s) ≡ b → item_len (Dvalues due) s ≤ length s
    go true e = bucket-le due s (bucket-held due s (ltb-true 0 (item_len (Dvalues due) s) e))
    go false e = omega (arith, ltb-false 0 (item_len (Dvalues due) s) e)
item-le Options s = option-le s

-- ---- where items begin, and what a message that decodes holds
pub record Decoded (K : Kind) (m : List ℕ) : Type 0 where
  pub head : 8 ≤ length m
  pub item : (t : ℕ) → t < count_of m → 0 < item_len K (drop (item_at K m t) m)

module _ (K : Kind) (m : List ℕ) where
  pub at_zero : item_at K m 0 ≡ 8
  unfolding item_at
  at_zero = refl

  pub at_next : (t : ℕ) → item_at K m (t + 1) ≡ item_at K m t + item_len K (drop (item_at K m t) m)
  unfolding item_at
  at_next t = rw (add-one t)

  pub at-le : 8 ≤ length m → (t : ℕ) → item_at K m t ≤ length m
  unfolding item_at
  at-le h zero = h
  at-le h (suc t) =
      let l = at-le h t in
      omega (arith, l, item-le K (drop (item_at K m t) m), length-drop (item_at K m t) m)

  -- every item takes at least a byte
  pub at-ge : (t : ℕ) → ((j : ℕ) → j < t → 0 < item_len K (drop (item_at K m j) m)) → 8 + t ≤ item_at K m t
  unfolding item_at
  at-ge zero h = omega arith
  at-ge (suc t) h = let l = at-ge t (λ j k. h j (omega arith)) in omega (arith, l, h t (omega arith))

  pub decoded : decodes K m ≡ true → Decoded K m
  unfolding decodes
  decoded h = record {
    head = leb-true 8 (length m) (and_first (leb 8 (length m)) _ h);
    item = λ t l. ltb-true 0 _ (of-all (count_of m) _ (and_second (leb 8 (length m)) _ h) t l);
  }

  pub decodes-of : Decoded K m → decodes K m ≡ true
  unfolding decodes
  decodes-of w =
      and-true (leb 8 (length m)) _ (le-leb 8 (length m) w.head) (all_of_lem (count_of m) _ (λ t l. lt-ltb 0 _ (w.item t l)))

  pub decodes-short : length m < 8 → decodes K m ≡ false
  unfolding decodes
  decodes-short h = first-false (leb 8 (length m)) _ (lt-leb 8 (length m) h)

  pub decodes-bad : (t : ℕ) → t < count_of m → item_len K (drop (item_at K m t) m) ≡ 0 → decodes K m ≡ false
  unfolding decodes
  decodes-bad t l e =
      second-false (leb 8 (length m)) _
      (all-false (count_of m) (λ t. ltb 0 (item_len K (drop (item_at K m t) m))) t l
      (le-ltb 0 (item_len K (drop (item_at K m t) m)) (omega (arith, e))))

  -- a count above the bytes behind it: the items don't fit, as each takes at least one
  pub decodes-over : length m < 8 + count_of m → decodes K m ≡ false
  decodes-over h = go (decodes K m) refl
    where
      go : (b : Bool) → decodes K m ≡ b → b ≡ false
      go true e = absurd (omega (arith, at-ge (count_of m) (decoded e).item, at-le (decoded e).head (count_of m)))
      go false e = refl

  -- an item takes a byte at least, and the count eight
  pub used-some : decodes K m ≡ true → 0 < item_at K m (count_of m)
  used-some e = omega (arith, at-ge (count_of m) (decoded e).item)

  -- ---- what is read
  pub read_none : decodes K m ≡ false → read_of K m ≡ Undecoded
  unfolding read_of
  read_none e = ap (λ (b : Bool). pick b (Value (value_of K m) (item_at K m (count_of m))) Undecoded) e

  pub read_some : decodes K m ≡ true → read_of K m ≡ Value (value_of K m) (item_at K m (count_of m))
  unfolding read_of
  read_some e = ap (λ (b : Bool). pick b (Value (value_of K m) (item_at K m (count_of m))) Undecoded) e

  pub value-count : length (value_of K m) ≡ count_of m
  unfolding value_of
  value-count = length-tab (count_of m) (λ t. item_of K (drop (item_at K m t) m))

  pub value-item : (t : ℕ) → t < count_of m → get_or (value_of K m) t Absent ≡ item_of K (drop (item_at K m t) m)
  unfolding value_of
  value-item t l = get_or-tab (count_of m) t (λ t. item_of K (drop (item_at K m t) m)) Absent l

-- the first t items of m have the inner counts that are due
unfoldable pub inners_due : Kind → ℕ → List ℕ → Bool
inners_due K t m = all_of t (λ j. item_due K (item_of K (drop (item_at K m j) m)))

-- the value's counts, as the bytes tell them
pub counts-are : (K : Kind) (count : ℕ) (m : List ℕ)
    → counts_due K count (value_of K m) ≡ (eqb (count_of m) count && inners_due K (count_of m) m)
unfolding counts_due inners_due
counts-are K count m =
    ap₂ (λ (c : ℕ) (b : Bool). eqb c count && b) (value-count K m)
    (ap (λ c. all_of c (λ t. item_due K (get_or (value_of K m) t Absent))) (value-count K m)
    ∙ all-ext (count_of m) _ _ (λ t l. ap (item_due K) (value-item K m t l)))

-- ---- a message of the right form
pub record Formed (K : Kind) (count : ℕ) (m : List ℕ) : Type 0 where
  pub decodes-is : decodes K m ≡ true
  pub used-is : item_at K m (count_of m) ≡ length m
  pub count-is : count_of m ≡ count
  pub inner-is : inners_due K count m ≡ true
