-- What is written: the records x, y and z with labels. What lies a label's length behind the start of such a record is one without a label
-- but for its bit, and its entries are written there; the head, with the label, is written at the end.
use Rattle.std.specs.Prelude.{◌≡◌, refl, Bool, ℕ, ◌+◌, ◌-◌, ◌*◌, ◌<◌, ◌≤◌, length, take}
use Rattle.std.proofs.Math.Path.{sym, ap, ap₂}
use Rattle.std.proofs.Common.{◌∙◌, arith, length-append, length-drop, take-append-drop, take_at, drop_at, drop-drop, length-take-le}
use mathlib.Core.List.{List, [], ◌++◌, append_assoc}
use Rattle.std.proofs.Math.ListN.{drop}
use Rattle.std.proofs.lemmas.List.{drop-append-le}
use Rattle.lists.specs.Over.{cat, over-full}
use Rattle.lists.specs.Sect.{get, put, get-rest}
use Rattle.share.specs.Layout.{head_of, mac_off, head-end, bit-alone, record-some}
use Rattle.share.specs.Record.{record_len}
use Rattle.share.specs.Share.{Share, entry_of, record_of}
use Rattle.share.specs.Lent.{LABEL, lent_len, lent_head, lent_of}
use Rattle.share.specs.LentLaws.{lent_longer, length-lent_of}
use Rattle.share.specs.Entered.{entered-head}
use Rattle.bucket_sum.specs.Row.{Rowed, put_entries, rowed-none, rowed-long, rowed-turn}

-- what a callee leaves that was lent all behind p
pub part_left : (p r y l : List ℕ) (a : ℕ) → l ≡ p ++ r → length p ≡ a → put a (length l - a) y l ≡ p ++ y
part_left p r y l a e h =
    let rest : drop a l ≡ r = ap (drop a) e ∙ drop_at p r a h in
    ap₂ (λ (t d : List ℕ). t ++ (y ++ drop (length l - a) d)) (ap (take a) e ∙ take_at p r a h) rest
    ∙ ap (λ (d : List ℕ). p ++ d) (over-full y r (length l - a) (omega (arith, ap length rest, length-drop a l)))

-- and what it was lent
pub part-lent : (p r l : List ℕ) (a : ℕ) → l ≡ p ++ r → length p ≡ a → get a (length l - a) l ≡ r
part-lent p r l a e h = get-rest a l ∙ ap (drop a) e ∙ drop_at p r a h

module _ (n i : ℕ) (x : Share) where
  -- the head over a record whose entries are written
  module _ (b : Bool) (g d : List ℕ) (gap : length g ≡ LABEL) (bit : b ≡ x.bit) where
    pub head-over : drop (mac_off 0) d ≡ cat n (entry_of i x) → lent_head n i b ++ drop (1 + LABEL) (g ++ d) ≡ lent_of n i x
    unfolding lent_of
    head-over e =
        ap₂ (λ (v : Bool) (l : List ℕ). lent_head n i v ++ l) bit
        (ap (λ m. drop m (g ++ d)) (let q : 1 + LABEL ≡ LABEL + mac_off 0 = omega (arith, bit-alone) in q)
        ∙ sym (drop-drop (mac_off 0) LABEL (g ++ d))
        ∙ ap (drop (mac_off 0)) (drop_at g d LABEL gap) ∙ e)

  pub head-over-kept : (b : Bool) (g : List ℕ) → length g ≡ LABEL → b ≡ x.bit
      → lent_head n i b ++ drop (1 + LABEL) (g ++ record_of n i x) ≡ lent_of n i x
  unfolding record_of
  head-over-kept b g gap bit =
      head-over b g (record_of n i x) gap bit (drop_at (head_of x.bit) (cat n (entry_of i x)) (mac_off 0) (head-end x.bit))

-- y is written, and of x and z the entries of the first k parties, behind h and g, which the heads take the place of
pub record Lined (n i k : ℕ) (x z : Share) (y out : List ℕ) : Type 0 where
  pub h : List ℕ
  pub g : List ℕ
  pub row : List ℕ
  pub before-x : length h ≡ LABEL
  pub before-z : length g ≡ LABEL
  pub is : out ≡ h ++ row
  pub rowed : Rowed n i k x z (y ++ g) row

module _ (n i : ℕ) (x z : Share) (y : List ℕ) (long : length y ≡ lent_len n) where
  pub lined-none : (a b out : List ℕ) → length a ≡ lent_len n → length b ≡ lent_len n → out ≡ a ++ (y ++ b) → Lined n i 0 x z y out
  lined-none a b out ha hb e = record {
    h = take LABEL a;
    g = take LABEL b;
    row = drop LABEL a ++ ((y ++ take LABEL b) ++ drop LABEL b);
    before-x = length-take-le LABEL a (omega (arith, ha, lent_longer n));
    before-z = length-take-le LABEL b (omega (arith, hb, lent_longer n));
    is =
        e ∙ ap₂ (λ (u v : List ℕ). u ++ (y ++ v)) (sym (take-append-drop LABEL a)) (sym (take-append-drop LABEL b))
        ∙ append_assoc (take LABEL a) (drop LABEL a) (y ++ (take LABEL b ++ drop LABEL b))
        ∙ ap (λ (l : List ℕ). take LABEL a ++ (drop LABEL a ++ l)) (sym (append_assoc y (take LABEL b) (drop LABEL b)));
    rowed = rowed-none n i x z (y ++ take LABEL b) (drop LABEL a) (drop LABEL b) _
        (length-drop LABEL a ∙ (let q : length a - LABEL ≡ record_len n = omega (arith, ha, lent_longer n) in q))
        (length-drop LABEL b ∙ (let q : length b - LABEL ≡ record_len n = omega (arith, hb, lent_longer n) in q)) refl;
  }

  module _ {k : ℕ} {out : List ℕ} (w : Lined n i k x z y out) (at : ℕ) (here : at ≡ 2 * lent_len n) where
    z-here : at ≡ record_len n + length (y ++ w.g)
    z-here = omega (arith, here, lent_longer n, long, length-append y w.g, w.before-z)

    pub lined-row : length w.row ≡ at + record_len n
    lined-row = rowed-long n i x z (y ++ w.g) w.rowed at z-here

    pub lined-long : length out ≡ 3 * lent_len n
    lined-long =
        ap length w.is ∙ length-append w.h w.row
        ∙ (let q : length w.h + length w.row ≡ 3 * lent_len n = omega (arith, w.before-x, lined-row, here, lent_longer n) in q)

    -- what is lent for the entries
    pub lined-part : get LABEL (length out - LABEL) out ≡ w.row
    lined-part = part-lent w.h w.row out LABEL w.is w.before-x

    pub lined-turn : k < n → (a b r : List ℕ) → a ≡ entry_of i x k → b ≡ entry_of i z k
        → r ≡ put_entries at k a b (get LABEL (length out - LABEL) out) → Lined n i (k + 1) x z y (put LABEL (length out - LABEL) r out)
    lined-turn lt a b r ha hb e = record {
      h = w.h;
      g = w.g;
      row = put_entries at k a b w.row;
      before-x = w.before-x;
      before-z = w.before-z;
      is =
          part_left w.h w.row r out LABEL w.is w.before-x
          ∙ ap (λ (l : List ℕ). w.h ++ l) (e ∙ ap (put_entries at k a b) lined-part);
      rowed = rowed-turn n i x z (y ++ w.g) w.rowed at z-here lt a b ha hb;
    }

    -- after the last turn, with the heads
    module _ (last : k ≡ n) (a b : Bool) (ha : a ≡ x.bit) (hb : b ≡ z.bit) where
      abbrev front : List ℕ
      front = lent_of n i x ++ y

      abbrev back : List ℕ
      back = w.g ++ w.rowed.z₁

      first : lent_head n i a ++ drop (1 + LABEL) out ≡ front ++ back
      first =
          let X : List ℕ = w.rowed.x₁ in
          let R : List ℕ = (y ++ w.g) ++ w.rowed.z₁ in
          let room : 1 + LABEL ≤ length (w.h ++ X) =
          omega (arith, length-append w.h X, w.before-x, w.rowed.x-part.same, w.rowed.x-part.whole, record-some n) in
          ap (λ (l : List ℕ). lent_head n i a ++ drop (1 + LABEL) l)
          (w.is ∙ ap (λ (l : List ℕ). w.h ++ l) w.rowed.is ∙ sym (append_assoc w.h X R))
          ∙ ap (λ (l : List ℕ). lent_head n i a ++ l) (drop-append-le (1 + LABEL) (w.h ++ X) R room)
          ∙ sym (append_assoc (lent_head n i a) (drop (1 + LABEL) (w.h ++ X)) R)
          ∙ ap₂ (λ (l r : List ℕ). l ++ r) (head-over n i x a w.h X w.before-x ha (entered-head w.rowed.x-part [] last))
          (append_assoc y w.g w.rowed.z₁)
          ∙ sym (append_assoc (lent_of n i x) y back)

      front_long : length front ≡ at
      front_long =
          length-append (lent_of n i x) y
          ∙ (let q : length (lent_of n i x) + length y ≡ at = omega (arith, length-lent_of n i x, long, here) in q)

      -- s is left by the first of the two calls, r by the second
      pub lined-end : (s r : List ℕ) → s ≡ lent_head n i a ++ drop (1 + LABEL) out
          → r ≡ lent_head n i b ++ drop (1 + LABEL) (get at (length s - at) s)
          → put at (length s - at) r s ≡ lent_of n i x ++ (y ++ lent_of n i z)
      lined-end s r hs hr =
          part_left front back r s at (hs ∙ first) front_long
          ∙ ap (λ (l : List ℕ). front ++ l)
          (hr
          ∙ ap (λ (l : List ℕ). lent_head n i b ++ drop (1 + LABEL) l) (part-lent front back s at (hs ∙ first) front_long)
          ∙ head-over n i z b w.g w.rowed.z₁ w.before-z hb (entered-head w.rowed.z-part [] last))
          ∙ append_assoc (lent_of n i x) y (lent_of n i z)
