-- The loops from item to item: a position and an index.
use Rattle.std.specs.Prelude.{◌≡◌, ◌&&◌, ◌+◌, ◌*◌, ◌<◌, ◌≤◌}
use Rattle.lists.specs.Kit.{refl, sym, ap, ap₂, subst, ◌∙◌, List, Bool, true, false, ℕ, zero, suc, arith, length}
use Rattle.lists.specs.Kit.{drop}
use native.Mathlib.Nat.{suc-mul}
use native.Mathlib.Numerals.{add-one}
use lib.ListN.{length-drop}
use Rattle.std.specs.Prelude.{Option, None, Some}
use Rattle.std.specs.Option.{unwrap_or}
use Rattle.message.specs.declared.Reading.{Reading}
use Rattle.message.specs.Found.{Long, Told}
use lib.Dec.{ltb, eqb}
use borrow.Author.Tests.{ltb-true, ltb-false, eq-eqb, ne_eqb}
use Rattle.lists.specs.Pick.{pick}
use Rattle.lists.specs.All.{all_of_lem, all-zero, all-turn}
use Rattle.lists.specs.Over.{in-chunks}
use Rattle.message.specs.declared.Kind.{Kind}
use Rattle.message.specs.declared.Kind.TheVariants.{Items}
use Rattle.message.specs.Format.{bools, vec_len, item_len, item_at, count_of, decodes, item_of, Decoding, Undecoded, read_of, item_due}
use Rattle.message.specs.Format.{form_by, form_of, used_of}
use Rattle.message.specs.Format.{due_of}
use Rattle.message.specs.FormatLaws.{item-le, at_zero, at_next, decoded, decodes-of, decodes-bad, used-some, read_none, read_some}
use Rattle.message.specs.FormatLaws.{inners_due, counts-are, vec-some, items-some, items-not, at-le}
use Rattle.message.proofs.FormLaws.{fixed-at}
use Rattle.message.proofs.Laws.{bools-none}

-- a length that was told, 0 for nothing
pub len-is : (o : Option ℕ) (n : ℕ) → Long n o → unwrap_or o 0 ≡ n
len-is None n h = sym h
len-is (Some k) n h = h.0

-- the first t items decode, and item t begins at pos
pub record Walked (K : Kind) (m : List ℕ) (t pos : ℕ) : Type 0 where
  pub here : pos ≡ item_at K m t
  pub fits : pos ≤ length m
  pub items : (j : ℕ) → j < t → 0 < item_len K (drop (item_at K m j) m)

module _ (K : Kind) (m : List ℕ) where
  pub walked_start : 8 ≤ length m → Walked K m 0 8
  walked_start h = record { here = sym (at_zero K m); fits = h; items = λ j l. absurd (omega arith) }

  module _ (t pos n : ℕ) (w : Walked K m t pos) (e : n ≡ item_len K (drop pos m)) where
    here-len : item_len K (drop (item_at K m t) m) ≡ n
    here-len = ap (λ a. item_len K (drop a m)) (sym w.here) ∙ sym e

    pub walked-room : pos + n ≤ length m
    walked-room = omega (arith, w.fits, item-le K (drop pos m), length-drop pos m)

    pub walked-turn : 0 < n → Walked K m (t + 1) (pos + n)
    walked-turn k = record { here = next; fits = walked-room; items = λ j l. go j l (ltb j t) refl }
      where
        next : pos + n ≡ item_at K m (t + 1)
        next = omega (arith, at_next K m t, here-len, w.here)

        go : (j : ℕ) → j < t + 1 → (b : Bool) → ltb j t ≡ b → 0 < item_len K (drop (item_at K m j) m)
        go j l true q = w.items j (ltb-true j t q)
        go j l false q =
            let p : t ≡ j = omega (arith, ltb-false j t q) in
            subst (λ i. 0 < item_len K (drop (item_at K m i) m)) p (omega (arith, here-len))

    -- an item that isn't there
    pub walked_stop : t < count_of m → n ≡ 0 → decodes K m ≡ false
    walked_stop l z = decodes-bad K m t l (here-len ∙ z)

  -- in a message that decodes there is an item
  pub walked-item : (t pos : ℕ) → Walked K m t pos → decodes K m ≡ true → t < count_of m → 0 < item_len K (drop pos m)
  walked-item t pos w d l = rw w.here ((decoded K m d).item t l)

-- ---- the inner counts
module _ (K : Kind) (m : List ℕ) where
  pub inners-none : true ≡ inners_due K 0 m
  unfolding inners_due
  inners-none = sym (all-zero (λ t. item_due K (item_of K (drop (item_at K m t) m))))

  pub inners-turn : (t pos : ℕ) → Walked K m t pos → (a b : Bool) → a ≡ inners_due K t m → b ≡ item_due K (item_of K (drop pos m))
      → (a && b) ≡ inners_due K (t + 1) m
  unfolding inners_due
  inners-turn t pos w a b ea eb =
      ap₂ ◌&&◌ ea (eb ∙ ap (λ x. item_due K (item_of K (drop x m))) w.here)
      ∙ sym (all-turn t (λ t. item_due K (item_of K (drop (item_at K m t) m))))

-- ---- what the reader tells
module _ (K : Kind) (count : ℕ) (m : List ℕ) where
  pub read-end : (t pos found : ℕ) (inner : Bool) → Walked K m t pos → 8 ≤ length m → t ≡ found → found ≡ count_of m
      → inner ≡ inners_due K t m
      → (0 < pos) × (pos ≡ used_of (read_of K m)) × ((eqb found count && inner) ≡ due_of K count (read_of K m))
  unfolding used_of due_of
  read-end t pos found inner w h e f i = (
    omega (arith, here, used-some K m d),
    here ∙ sym (ap used_of (read_some K m d)),
    ap₂ (λ (n : ℕ) (b : Bool). eqb n count && b) f (i ∙ ap (λ n. inners_due K n m) (e ∙ f)) ∙ sym (counts-are K count m)
        ∙ sym (ap (due_of K count) (read_some K m d)),
  )
    where
      d : decodes K m ≡ true
      d = decodes-of K m (record { head = h; item = λ j l. w.items j (omega arith) })

      here : pos ≡ item_at K m (count_of m)
      here = w.here ∙ ap (item_at K m) (e ∙ f)

  -- ---- 13, 21, 6 or 0
  pub none-told : (d : Decoding) (o : Option Reading) → ((r : Reading) → o ≡ Some r → ⊥) → Told K count d o → d ≡ Undecoded
  none-told d None n h = h
  none-told d (Some r) n h = absurd (n r refl)

  pub form-none : read_of K m ≡ Undecoded → form_of K count m ≡ 13
  unfolding form_of form_by
  form-none e = ap (form_by K count (length m)) e

  module _ (used : ℕ) (due : Bool) (some : 0 < used) (eu : used ≡ used_of (read_of K m)) (ed : due ≡ due_of K count (read_of K m)) where
    form-some : form_of K count m ≡ pick (eqb used (length m)) (pick due 0 6) 21
    unfolding form_of form_by used_of due_of
    form-some = go (decodes K m) refl
      where
        go : (b : Bool) → decodes K m ≡ b → form_of K count m ≡ pick (eqb used (length m)) (pick due 0 6) 21
        go false e = absurd (omega (arith, eu ∙ ap used_of (read_none K m e)))
        go true e =
            let r = read_some K m e in
            ap (form_by K count (length m)) r
            ∙ sym (ap₂ (λ (n : ℕ) (b : Bool). pick (eqb n (length m)) (pick b 0 6) 21) (eu ∙ ap used_of r) (ed ∙ ap (due_of K count) r))

    pub form-after : (used ≡ length m → ⊥) → form_of K count m ≡ 21
    form-after n = form-some ∙ ap (λ (b : Bool). pick b (pick due 0 6) 21) (ne_eqb used (length m) n)

    pub form-whole : used ≡ length m → form_of K count m ≡ pick due 0 6
    form-whole e = form-some ∙ ap (λ (b : Bool). pick b (pick due 0 6) 21) (eq-eqb used (length m) e)

-- ---- items of a fixed size
and-unit : (b : Bool) → b ≡ (b && true)
and-unit true = refl
and-unit false = refl

module _ (size c : ℕ) (m : List ℕ) (some : 0 < size) where
  abbrev I : Kind
  I = Items size c

  -- no room for as many as the count says
  pub fixed-over : vec_len size m ≡ 0 → decodes I m ≡ false
  fixed-over z = go (decodes I m) refl
    where
      go : (b : Bool) → decodes I m ≡ b → b ≡ false
      go false e = refl
      go true e =
          let d = decoded I m e in
          let l : 8 + count_of m * size ≤ length m = omega (arith, fixed-at size c m (count_of m) d.item, at-le I m d.head (count_of m)) in
          absurd (omega (arith, vec-some size m l, z))

  module _ (h : 8 + count_of m * size ≤ length m) where
    -- item t lies within
    pub fixed-room : (t pos : ℕ) → Walked I m t pos → t < count_of m → pos + size ≤ length m
    fixed-room t pos w l = omega (arith, w.here, fixed-at size c m t w.items, in-chunks t (count_of m) size l)

    pub fixed-turn : (t pos : ℕ) → Walked I m t pos → t < count_of m → bools c (drop pos m) ≡ true → Walked I m (t + 1) (pos + size)
    fixed-turn t pos w l b =
        walked-turn I m t pos size w
        (sym (items-some size c (drop pos m) (omega (arith, fixed-room t pos w l, length-drop pos m)) b)) some

    pub fixed-stop : (t pos : ℕ) → Walked I m t pos → t < count_of m → bools c (drop pos m) ≡ false → decodes I m ≡ false
    fixed-stop t pos w l b = walked_stop I m t pos 0 w (sym (items-not size c (drop pos m) b)) l refl

    -- the end of the list
    pub fixed-end : (count used found : ℕ) (t pos : ℕ) → Walked I m t pos → t ≡ count_of m → used ≡ vec_len size m → found ≡ count_of m
        → (0 < used) × (used ≡ used_of (read_of I m)) × (eqb found count ≡ due_of I count (read_of I m))
    unfolding inners_due item_due
    fixed-end count used found t pos w e eu ef =
        let r = read-end I count m t pos found true w (omega arith) (e ∙ sym ef) ef (sym (all_of_lem t (λ t. true) (λ t l. refl))) in
        let p : used ≡ pos =
        eu ∙ vec-some size m h ∙ ap (λ n. 8 + n * size) (sym e) ∙ sym (fixed-at size c m t w.items) ∙ sym w.here in
        (omega (arith, p, r.0), p ∙ r.1, and-unit (eqb found count) ∙ r.2)

    -- without bools, every item
    pub plain-items : c ≡ 0 → (t : ℕ) → t ≤ count_of m → Walked I m t (8 + t * size)
    plain-items z zero l = subst (Walked I m 0) (omega arith) (walked_start I m (omega arith))
    plain-items z (suc t) l =
        let w = plain-items z t (omega arith) in
        subst (λ p. Walked I m p (8 + suc t * size)) (add-one t)
        (subst (Walked I m (t + 1)) (omega (arith, suc-mul t size))
        (fixed-turn t (8 + t * size) w (omega arith)
        (ap (λ n. bools n (drop (8 + t * size) m)) z ∙ bools-none (drop (8 + t * size) m))))
