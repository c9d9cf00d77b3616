-- What the form's answer says of a message: 13, 21, 6 or 0, and where its items lie.
use Rattle.std.specs.Prelude.{◌≡◌, Bool, ◌&&◌, List, ◌⊎◌, length, get_or, drop, eqb}
use Rattle.std.proofs.Math.Path.{refl, ap}
use Rattle.std.proofs.Common.{sym, ap₂, ◌∙◌, subst, inl, inr, zero-mul, suc-mul, add-zero, get_or-drop}
use Rattle.std.proofs.Math.Bool.{true, false}
use Prim.Native.Nat.{ℕ, zero, suc, ◌+◌, ◌*◌, ◌<◌, ◌≤◌}
use native.Mathlib.Omega.{arith}
use Rattle.std.proofs.Math.ListN.{length-drop}
use Rattle.std.proofs.Math.Dec.{ltb, leb}
use borrow.Author.Tests.{eq-eqb, ltb-true, leb-true, eqb-true}
use Rattle.lists.specs.Pick.{pick, pick-then}
use Rattle.lists.specs.All.{of-all, and_first, and_second}
use Rattle.block.specs.Block.{word_at}
use Rattle.block.specs.Trip.{word-drop}
use Rattle.message.specs.declared.Kind.{Kind}
use Rattle.message.specs.declared.Kind.TheVariants.{Items, Dms, Dvalues, Options}
use Rattle.message.specs.Format.{item_len, item_at, count_of, decodes, item_of}
use Rattle.message.specs.Format.{item_due, form_by, form_of}
use Rattle.message.specs.FormatLaws.{and-true, of-bools, vec-held, items-held, bucket-held, bucket-bytes, bucket-due, Decoded, at-le, decoded}
use Rattle.message.specs.FormatLaws.{read_none, read_some, inners_due, counts-are, Formed}

module _ (K : Kind) (count : ℕ) (m : List ℕ) where
  pub form-bad : decodes K m ≡ false → form_of K count m ≡ 13
  unfolding form_of form_by
  form-bad e = ap (form_by K count (length m)) (read_none K m e)

  -- of a message that decodes: 21, 6 or 0
  pub form-read : decodes K m ≡ true → form_of K count m
      ≡ pick (eqb (item_at K m (count_of m)) (length m)) (pick (eqb (count_of m) count && inners_due K (count_of m) m) 0 6) 21
  unfolding form_of form_by
  form-read e =
      ap (form_by K count (length m)) (read_some K m e)
      ∙ ap (λ (b : Bool). pick (eqb (item_at K m (count_of m)) (length m)) (pick b 0 6) 21) (counts-are K count m)

  pub form-of : Formed K count m → form_of K count m ≡ 0
  form-of w =
      form-read w.decodes-is
      ∙ ap₂ (λ (a b : Bool). pick a (pick b 0 6) 21) (eq-eqb (item_at K m (count_of m)) (length m) w.used-is)
      (and-true (eqb (count_of m) count) (inners_due K (count_of m) m) (eq-eqb (count_of m) count w.count-is)
      (ap (λ c. inners_due K c m) w.count-is ∙ w.inner-is))

  pub formed : form_of K count m ≡ 0 → Formed K count m
  formed h = go (decodes K m) refl
    where
      go : (b : Bool) → decodes K m ≡ b → Formed K count m
      go false e = absurd (omega (arith, form-bad e, h))
      go true e =
          let p = pick-then (eqb (item_at K m (count_of m)) (length m)) _ 21 0 (λ e. omega arith) (sym (form-read e) ∙ h) in
          let q = pick-then (eqb (count_of m) count && inners_due K (count_of m) m) 0 6 0 (λ e. omega arith) p.1 in
          let c : count_of m ≡ count = eqb-true (count_of m) count (and_first (eqb (count_of m) count) (inners_due K (count_of m) m) q.0) in
          record {
            decodes-is = e;
            used-is = eqb-true (item_at K m (count_of m)) (length m) p.0;
            count-is = c;
            inner-is = ap (λ k. inners_due K k m) (sym c) ∙ and_second (eqb (count_of m) count) (inners_due K (count_of m) m) q.0;
          }

-- ---- items of a fixed size
pub level-at : (K : Kind) (m : List ℕ) (size t : ℕ) → ((j : ℕ) → j < t → item_len K (drop (item_at K m j) m) ≡ size)
    → item_at K m t ≡ 8 + t * size
unfolding item_at
level-at K m size zero h = rw (zero-mul size)
level-at K m size (suc t) h =
    let e = level-at K m size t (λ j k. h j (omega arith)) in
    omega (arith, e, h t (omega arith), suc-mul t size)

pub fixed-at : (size c : ℕ) (m : List ℕ) (t : ℕ) → ((j : ℕ) → j < t → 0 < item_len (Items size c) (drop (item_at (Items size c) m j) m))
    → item_at (Items size c) m t ≡ 8 + t * size
fixed-at size c m t h = level-at (Items size c) m size t (λ j k. (items-held size c (drop (item_at (Items size c) m j) m) (h j k)).is)

-- a list of `count` items of `size` bytes, the first c of each bools
pub record Fixed (size c count : ℕ) (m : List ℕ) : Type 0 where
  pub count-is : count_of m ≡ count
  pub fits : 8 + count * size ≤ length m
  pub at : (t : ℕ) → t ≤ count → item_at (Items size c) m t ≡ 8 + t * size
  pub bits : (t k : ℕ) → t < count → k < c → get_or m (8 + t * size + k) 0 ≤ 1

pub fixed : (size c count : ℕ) (m : List ℕ) → form_of (Items size c) count m ≡ 0 → Fixed size c count m
fixed size c count m h = record {
  count-is = w.count-is;
  fits = omega (arith, starts count (omega arith), at-le (Items size c) m d.head count);
  at = starts;
  bits = λ t k l j. let p = items-held size c (drop (item_at (Items size c) m t) m) (held t l) in
      subst (λ a. a ≤ 1) (get_or-drop (item_at (Items size c) m t) m k 0 ∙ ap (λ a. get_or m (a + k) 0) (starts t (omega arith)))
      (of-bools (drop (item_at (Items size c) m t) m) c p.bits k j);
}
  where
    w : Formed (Items size c) count m
    w = formed (Items size c) count m h

    d : Decoded (Items size c) m
    d = decoded (Items size c) m w.decodes-is

    held : (t : ℕ) → t < count → 0 < item_len (Items size c) (drop (item_at (Items size c) m t) m)
    held t l = d.item t (omega (arith, w.count-is))

    starts : (t : ℕ) → t ≤ count → item_at (Items size c) m t ≡ 8 + t * size
    starts t l = fixed-at size c m t (λ j k. held j (omega arith))

-- ---- an item of a message of the right form
module _ (K : Kind) (count : ℕ) (m : List ℕ) (h : form_of K count m ≡ 0) where
  pub formed-at : (t : ℕ) → item_at K m t ≤ length m
  formed-at t = at-le K m (decoded K m (formed K count m h).decodes-is).head t

  pub formed-item : (t : ℕ) → t < count → 0 < item_len K (drop (item_at K m t) m)
  formed-item t l =
      let w = formed K count m h in
      (decoded K m w.decodes-is).item t (omega (arith, w.count-is))

-- a word where an item begins
pub word_at_lem : (s : List ℕ) (a : ℕ) → word_at (drop a s) 0 ≡ word_at s a
word_at_lem s a = word-drop s a 0 ∙ ap (word_at s) (add-zero a)

-- a dm at a: its length, and room for it
pub record Dm (m : List ℕ) (a : ℕ) : Type 0 where
  pub fits : a + 8 + word_at m a ≤ length m
  pub is : item_len Dms (drop a m) ≡ 8 + word_at m a

pub dm-held : (m : List ℕ) (a : ℕ) → a ≤ length m → 0 < item_len Dms (drop a m) → Dm m a
unfolding item_len
dm-held m a l h =
    let w = vec-held 1 (drop a m) h in
    record { fits = omega (arith, w.fits, word_at_lem m a, length-drop a m); is = omega (arith, w.is, word_at_lem m a) }

-- an option at a: absent, or present with room for a Block
pub record Entry (m : List ℕ) (a : ℕ) : Type 0 where
  pub tag : a < length m
  pub either : ((get_or m a 0 ≡ 0) × (item_len Options (drop a m) ≡ 1))
      ⊎ ((get_or m a 0 ≡ 1) × ((item_len Options (drop a m) ≡ 17) × (a + 17 ≤ length m)))

pub entry-held : (m : List ℕ) (a : ℕ) → 0 < item_len Options (drop a m) → Entry m a
unfolding item_len
entry-held m a h = go (ltb 0 (length s)) refl (eqb (get_or s 0 0) 0) refl (eqb (get_or s 0 0) 1) refl (leb 17 (length s)) refl h
  where
    s : List ℕ
    s = drop a m

    byte : get_or s 0 0 ≡ get_or m a 0
    byte = get_or-drop a m 0 0 ∙ ap (λ k. get_or m k 0) (add-zero a)

    go : (b : Bool) → ltb 0 (length s) ≡ b → (z : Bool) → eqb (get_or s 0 0) 0 ≡ z → (u : Bool) → eqb (get_or s 0 0) 1 ≡ u
        → (r : Bool) → leb 17 (length s) ≡ r → 0 < pick b (pick z 1 (pick (u && r) 17 0)) 0 → Entry m a
    go true e true f u g r i h = record {
      tag = omega (arith, ltb-true 0 (length s) e, length-drop a m);
      either = inl (sym byte ∙ eqb-true (get_or s 0 0) 0 f, rw (e, f) refl);
    }
    go true e false f true g true i h = record {
      tag = omega (arith, ltb-true 0 (length s) e, length-drop a m);
      either = inr (
        sym byte ∙ eqb-true (get_or s 0 0) 1 g,
        (rw (e, f, g, i) refl, omega (arith, leb-true 17 (length s) i, length-drop a m)),
      );
    }
    go true e false f true g false i h = absurd (omega arith)
    go true e false f false g r i h = absurd (omega arith)
    go false e z f u g r i h = absurd (omega arith)

-- a list of `count` buckets, each of `due` d values and as many MACs
pub record Buckets (due count : ℕ) (m : List ℕ) : Type 0 where
  pub count-is : count_of m ≡ count
  pub fits : 8 + count * (16 + due * 17) ≤ length m
  pub at : (t : ℕ) → t ≤ count → item_at (Dvalues due) m t ≡ 8 + t * (16 + due * 17)
  pub bits : (t k : ℕ) → t < count → k < due → get_or m (8 + t * (16 + due * 17) + 8 + k) 0 ≤ 1

pub buckets : (due count : ℕ) (m : List ℕ) → form_of (Dvalues due) count m ≡ 0 → Buckets due count m
unfolding inners_due
buckets due count m h = record {
  count-is = w.count-is;
  fits = omega (arith, starts count (omega arith), formed-at K count m h count);
  at = starts;
  bits = λ t k l j. subst (λ a. a ≤ 1) (place t k l)
      (of-bools (drop 8 (s t)) (word_at (s t) 0) (bucket-held due (s t) (formed-item K count m h t l)).bits k (omega (arith, first t l)));
}
  where
    K : Kind
    K = Dvalues due

    w : Formed K count m
    w = formed K count m h

    s : ℕ → List ℕ
    s t = drop (item_at K m t) m

    both : (t : ℕ) → t < count → (eqb (word_at (s t) 0) due && eqb (word_at (s t) (8 + word_at (s t) 0)) due) ≡ true
    both t l =
        sym (bucket-due due (s t) (formed-item K count m h t l)) ∙ of-all count (λ t. item_due K (item_of K (s t))) w.inner-is t l

    first : (t : ℕ) → t < count → word_at (s t) 0 ≡ due
    first t l =
        eqb-true (word_at (s t) 0) due (and_first (eqb (word_at (s t) 0) due) (eqb (word_at (s t) (8 + word_at (s t) 0)) due) (both t l))

    second : (t : ℕ) → t < count → word_at (drop (8 + word_at (s t) 0) (s t)) 0 ≡ due
    second t l =
        word_at_lem (s t) (8 + word_at (s t) 0)
        ∙ eqb-true (word_at (s t) (8 + word_at (s t) 0)) due
        (and_second (eqb (word_at (s t) 0) due) (eqb (word_at (s t) (8 + word_at (s t) 0)) due) (both t l))

    long : (t : ℕ) → t < count → item_len K (s t) ≡ 16 + due * 17
    long t l = omega (arith, bucket-bytes due (s t) (bucket-held due (s t) (formed-item K count m h t l)), first t l, second t l)

    starts : (t : ℕ) → t ≤ count → item_at K m t ≡ 8 + t * (16 + due * 17)
    starts t l = level-at K m (16 + due * 17) t (λ j k. long j (omega arith))

    place : (t k : ℕ) → t < count → get_or (drop 8 (s t)) k 0 ≡ get_or m (8 + t * (16 + due * 17) + 8 + k) 0
    place t k l =
        get_or-drop 8 (s t) k 0 ∙ get_or-drop (item_at K m t) m (8 + k) 0
        ∙ ap (λ i. get_or m i 0)
        (let p : item_at K m t + (8 + k) ≡ 8 + t * (16 + due * 17) + 8 + k = omega (arith, starts t (omega arith)) in p)
