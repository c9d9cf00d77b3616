-- The reader's loop turns and returns, as laws over plain variables.
use Rattle.std.specs.Prelude.{◌≡◌, ◌&&◌, ◌+◌, ◌-◌, ◌*◌, ◌<◌, ◌≤◌}
use Rattle.lists.specs.Kit.{refl, sym, ap, ap₂, ◌∙◌, List, Bool, true, false, ℕ, arith, length, get_or}
use Rattle.lists.specs.Kit.{take, drop}
use Prim.Native.Nat.{◌/◌, min}
use Rattle.std.specs.Bool.{MatchBool}
use Rattle.std.specs.List.{AllWithin, HoldsAt}
use Rattle.std.proofs.lemmas.List.{get_or-take, length-take-le}
use native.Mathlib.Nat.{add-zero, le-div_iff_mul-le, div-lt_iff_lt-mul}
use lib.ListN.{length-drop, get_or-eq_default}
use lib.Seq.{get_or-drop, drop-drop}
use lib.Dec.{ltb, leb, eqb}
use borrow.Author.Tests.{lt-ltb, le-ltb, le-leb, lt-leb, leb-true, leb-false, eq-eqb, ne_eqb, ltb-true, ltb-false}
use Rattle.lists.specs.Pick.{pick}
use Rattle.lists.specs.All.{all-zero}
use Rattle.block.specs.Block.{word_at}
use Rattle.block.specs.Trip.{word-drop}
use Rattle.message.specs.declared.Kind.{Kind}
use Rattle.message.specs.declared.Kind.TheVariants.{Items, Dms, Dvalues, Options}
use Rattle.message.specs.Format.{bools, vec_len, item_len, item_of, item_due}
use Rattle.message.specs.FormatLaws.{first-false, bools-of, bools-false, Held, vec-some, vec-none, vec-held}
use Rattle.message.proofs.FormLaws.{word_at_lem}
use Rattle.message.specs.FormatLaws.{vec-le, items-some, items-short, items-held, bucket-some, bucket-short, bucket-not, bucket-bare}
use Rattle.message.specs.FormatLaws.{bucket-held, bucket-due}

-- ---- bools
pub bools-none : (s : List ℕ) → bools 0 s ≡ true
unfolding bools
bools-none s = all-zero (λ k. leb (get_or s k 0) 1)

-- what is looked at: the bytes from `at` on, `count` at the most
module _ (s xs : List ℕ) (at count n : ℕ) (hn : n ≡ min count (length s - at)) (hx : xs ≡ take n (drop at s)) where
  long : length xs ≡ n
  long = ap length hx ∙ length-take-le n (drop at s) (omega (arith, length-drop at s))

  byte : (k : ℕ) → k < length xs → get_or xs k 0 ≡ get_or (drop at s) k 0
  byte k l = ap (λ (x : List ℕ). get_or x k 0) hx ∙ get_or-take n (drop at s) k 0 (omega (arith, long))

  pub bools-are : (r : Bool) → MatchBool r (AllWithin (λ x. x ≤ 1) xs 0 (length xs)) ((k : ℕ) × (k < length xs) × HoldsAt (λ x. 1 < x) xs k)
      → r ≡ bools count (drop at s)
  bools-are true h = sym (bools-of (drop at s) count (λ k l. go k l (ltb k (length xs)) refl))
    where
      go : (k : ℕ) → k < count → (b : Bool) → ltb k (length xs) ≡ b → get_or (drop at s) k 0 ≤ 1
      go k l true q = let w = ltb-true k (length xs) q in rw (← byte k w) (h k 0 (omega arith) w)
      go k l false q =
          let z : get_or (drop at s) k 0 ≡ 0 =
          get_or-eq_default (drop at s) 0 (omega (arith, ltb-false k (length xs) q, long, length-drop at s)) in
          omega arith
  bools-are false h = sym (bools-false (drop at s) count h.0 (omega (arith, h.1, long)) (rw (← byte h.0 h.1) (h.2 0)))

-- ---- a count, and what is left for its items
module _ (s : List ℕ) (at size : ℕ) (h : 0 < size) where
  pub vec-short : length s - at < 8 → vec_len size (drop at s) ≡ 0
  vec-short l = vec-none size (drop at s) (omega (arith, length-drop at s))

  pub vec-over : (w : ℕ) → w ≡ word_at s at → (length s - at - 8) / size < w → vec_len size (drop at s) ≡ 0
  vec-over w e l =
      let k : length s - at - 8 < word_at (drop at s) 0 * size = rw (word_at_lem s at, ← e) ((div-lt_iff_lt-mul h).0 l) in
      vec-none size (drop at s) (omega (arith, length-drop at s))

  pub vec-room : (w : ℕ) → w ≤ (length s - at - 8) / size → w * size ≤ length s - at - 8
  vec-room w l = (le-div_iff_mul-le h).0 l

  pub vec-whole : (w : ℕ) → w ≡ word_at s at → 8 ≤ length s - at → w ≤ (length s - at - 8) / size → 8 + w * size ≡ vec_len size (drop at s)
  vec-whole w e l r =
      let q : word_at (drop at s) 0 ≡ w = word_at_lem s at ∙ sym e in
      sym (vec-some size (drop at s) (rw q (omega (arith, vec-room w r, length-drop at s))) ∙ ap (λ n. 8 + n * size) q)

-- ---- an option, by what is left and its first byte
abbrev pub option_of : ℕ → ℕ → ℕ
option_of left tag = pick (ltb 0 left) (pick (eqb tag 0) 1 (pick (eqb tag 1 && leb 17 left) 17 0)) 0

module _ (s : List ℕ) (at left tag : ℕ) (hl : left ≡ length s - at) (ht : tag ≡ get_or s at 0) where
  option-at : item_len Options (drop at s) ≡ option_of left tag
  unfolding item_len
  option-at = ap₂ option_of (length-drop at s ∙ sym hl) (get_or-drop at s 0 0 ∙ ap (λ k. get_or s k 0) (add-zero at) ∙ sym ht)

  pub option-end : left ≡ 0 → item_len Options (drop at s) ≡ 0
  option-end e = rw (le-ltb 0 left (omega arith)) at option-at

  module _ (h : left ≡ 0 → ⊥) where
    some : ltb 0 left ≡ true
    some = lt-ltb 0 left (omega arith)

    pub option-absent : tag ≡ 0 → item_len Options (drop at s) ≡ 1
    option-absent e = rw (some, eq-eqb tag 0 e) at option-at

    pub option-bad : (tag ≡ 0 → ⊥) → (tag ≡ 1 → ⊥) → item_len Options (drop at s) ≡ 0
    option-bad n k = rw (some, ne_eqb tag 0 n, ne_eqb tag 1 k) at option-at

    pub option-short : tag ≡ 1 → left < 17 → item_len Options (drop at s) ≡ 0
    option-short e k = rw (some, ne_eqb tag 0 (λ z. omega arith), eq-eqb tag 1 e, lt-leb 17 left k) at option-at

    pub option-present : tag ≡ 1 → 17 ≤ left → item_len Options (drop at s) ≡ 17
    option-present e k = rw (some, ne_eqb tag 0 (λ z. omega arith), eq-eqb tag 1 e, le-leb 17 left k) at option-at

-- ---- a part inside of a buffer, without a sum that wraps
pub inside-test : (total start len : ℕ) → start ≤ total → leb len (total - start) ≡ leb (start + len) total
inside-test total start len h = go (leb len (total - start)) refl
  where
    go : (b : Bool) → leb len (total - start) ≡ b → b ≡ leb (start + len) total
    go true e = sym (le-leb (start + len) total (omega (arith, leb-true len (total - start) e)))
    go false e = sym (lt-leb (start + len) total (omega (arith, leb-false len (total - start) e)))

pub inside-past : (total start len : ℕ) → total < start → leb start total ≡ leb (start + len) total
inside-past total start len h = lt-leb start total h ∙ sym (lt-leb (start + len) total (omega arith))

-- ---- kinds without inner counts
pub no-inner : (K : Kind) (s : List ℕ) → ((due : ℕ) → K ≡ Dvalues due → ⊥) → true ≡ item_due K (item_of K s)
unfolding item_due
no-inner (Items size c) s h = refl
no-inner Dms s h = refl
no-inner (Dvalues due) s h = absurd (h due refl)
no-inner Options s h = refl

-- ---- a bucket's two counts
module _ (s : List ℕ) (at due : ℕ) where
  pub due-not : 0 < item_len (Dvalues due) (drop at s) → (w : ℕ) → w ≡ word_at s at → (w ≡ due → ⊥)
      → false ≡ item_due (Dvalues due) (item_of (Dvalues due) (drop at s))
  due-not h w e n =
      sym (bucket-due due (drop at s) h
      ∙ first-false (eqb (word_at (drop at s) 0) due) _ (ne_eqb (word_at (drop at s) 0) due (λ q. n (e ∙ sym (word_at_lem s at) ∙ q))))

  pub due-both : 0 < item_len (Dvalues due) (drop at s) → (w v : ℕ) → w ≡ word_at s at → w ≡ due → v ≡ word_at s (at + 8 + due)
      → eqb v due ≡ item_due (Dvalues due) (item_of (Dvalues due) (drop at s))
  due-both h w v e q f =
      let p : word_at (drop at s) 0 ≡ due = word_at_lem s at ∙ sym e ∙ q in
      let k : word_at (drop at s) (8 + word_at (drop at s) 0) ≡ v =
      word-drop s at (8 + word_at (drop at s) 0)
      ∙ ap (word_at s) (let r : at + (8 + word_at (drop at s) 0) ≡ at + 8 + due = omega (arith, p) in r) ∙ sym f in
      sym (bucket-due due (drop at s) h ∙ ap₂ (λ a b. eqb a due && eqb b due) p k ∙ ap (λ (b : Bool). b && eqb v due) (eq-eqb due due refl))

  -- the first list and the second's count lie within
  pub bucket-head : 0 < item_len (Dvalues due) (drop at s) → at + 8 + word_at s at + 8 ≤ length s
  bucket-head h =
      let w = bucket-held due (drop at s) h in
      omega (arith, w.ds.fits, w.macs.fits, length-drop at s, length-drop (8 + word_at (drop at s) 0) (drop at s), word_at_lem s at)

-- ---- an item of a fixed size
module _ (s : List ℕ) (at size count : ℕ) where
  pub items-nothing : size ≡ 0 → item_len (Items size count) (drop at s) ≡ 0
  items-nothing z = go (ltb 0 (item_len (Items size count) (drop at s))) refl
    where
      go : (b : Bool) → ltb 0 (item_len (Items size count) (drop at s)) ≡ b → item_len (Items size count) (drop at s) ≡ 0
      go true e = (items-held size count (drop at s) (ltb-true 0 (item_len (Items size count) (drop at s)) e)).is ∙ z
      go false e = omega (arith, ltb-false 0 (item_len (Items size count) (drop at s)) e)

  pub items-end : length s - at < size → item_len (Items size count) (drop at s) ≡ 0
  items-end h = items-short size count (drop at s) (omega (arith, length-drop at s))

  pub items-whole : size ≤ length s - at → bools count (drop at s) ≡ true → size ≡ item_len (Items size count) (drop at s)
  items-whole h e = sym (items-some size count (drop at s) (omega (arith, length-drop at s)) e)

-- ---- a bucket: a list of bools of a bytes, and a list of Blocks of v bytes
module _ (s : List ℕ) (at due : ℕ) where
  pub bucket-end : vec_len 1 (drop at s) ≡ 0 → item_len (Dvalues due) (drop at s) ≡ 0
  bucket-end z = bucket-short due (drop at s) z

module _ (s : List ℕ) (at due a : ℕ) (e : a ≡ vec_len 1 (drop at s)) where
  module _ (n : 0 < a) where
    held : Held 1 (drop at s)
    held = vec-held 1 (drop at s) (omega arith)

    count-is : a ≡ 8 + word_at (drop at s) 0
    count-is = omega (arith, held.is)

    pub first-list : (8 ≤ a) × (at + a ≤ length s)
    first-list = (omega (arith, count-is), omega (arith, held.is, held.fits, length-drop at s))

    bits_of : bools (a - 8) (drop (at + 8) s) ≡ bools (word_at (drop at s) 0) (drop 8 (drop at s))
    bits_of = ap₂ bools (let p : a - 8 ≡ word_at (drop at s) 0 = omega (arith, count-is) in p) (sym (drop-drop 8 at s))

    macs-of : vec_len 16 (drop (at + a) s) ≡ vec_len 16 (drop (8 + word_at (drop at s) 0) (drop at s))
    macs-of = ap (vec_len 16) (sym (drop-drop a at s) ∙ ap (λ k. drop k (drop at s)) count-is)

    pub bucket-no : bools (a - 8) (drop (at + 8) s) ≡ false → item_len (Dvalues due) (drop at s) ≡ 0
    bucket-no q = bucket-not due (drop at s) (sym bits_of ∙ q)

    pub bucket-cut : vec_len 16 (drop (at + a) s) ≡ 0 → item_len (Dvalues due) (drop at s) ≡ 0
    bucket-cut z = bucket-bare due (drop at s) (sym macs-of ∙ z)

    module _ (v : ℕ) (g : v ≡ vec_len 16 (drop (at + a) s)) where
      pub bucket-yes : bools (a - 8) (drop (at + 8) s) ≡ true → 0 < v → a + v ≡ item_len (Dvalues due) (drop at s)
      bucket-yes q k =
          ap₂ ◌+◌ e (g ∙ macs-of)
          ∙ sym (bucket-some due (drop at s) (omega (arith, e)) (sym bits_of ∙ q) (omega (arith, g, macs-of)))

      pub bucket-fits : a + v ≤ length s
      bucket-fits = omega (arith, vec-le 16 (drop (at + a) s), length-drop (at + a) s, first-list)
