-- Reading what was written gives back the value, and uses the message to its last byte: one law over items of any kind and length.
use Rattle.std.specs.Prelude.{◌≡◌, true, take}
use Rattle.std.proofs.Math.Path.{refl, sym, ap, ap₂}
use Rattle.std.proofs.Common.{◌∙◌, arith, length-drop, take-append-drop, take_at}
use mathlib.Core.List.{List, [], ◌++◌, append_assoc, append-nil}
use Prim.Native.Nat.{ℕ, zero, suc, ◌+◌, ◌-◌, ◌*◌, ◌^◌, ◌<◌, ◌≤◌}
use Rattle.std.proofs.Math.ListN.{length, drop, length-append}
use Rattle.std.proofs.lemmas.List.{take-append-le, drop-append-le}
use Rattle.std.proofs.Math.Seq.{drop-append-add}
use Rattle.lists.specs.All.{all_of_lem}
use Rattle.lists.specs.Over.{cat, length-cat}
use Rattle.lists.specs.Rows.{cat-part, cat-inside}
use Rattle.block.specs.Block.{le8}
use Rattle.block.specs.Trip.{length-le8}
use Rattle.message.specs.declared.Kind.{Kind}
use Rattle.message.specs.Format.{item_len, item_at, count_of, decodes, item_of, item_due, form_of}
use Rattle.message.specs.FormatLaws.{decodes-of, inners_due}
use Rattle.message.proofs.FormLaws.{form-of}
use Rattle.encode.specs.Encode.{encode}
use Rattle.encode.specs.Coded.{Coded, count-encode}

-- m is the list of the c items g, and is read so
pub record Trip (K : Kind) (c : ℕ) (g : ℕ → List ℕ) (m : List ℕ) : Type 0 where
  pub decodes-is : decodes K m ≡ true
  pub count-is : count_of m ≡ c
  pub at : (t : ℕ) → t ≤ c → item_at K m t ≡ 8 + length (cat t g)
  pub form-is : form_of K c m ≡ 0
  pub item : (t : ℕ) → t < c → take (length (g t)) (drop (item_at K m t) m) ≡ g t

-- ---- item t stands behind those before it
module _ (c : ℕ) (g : ℕ → List ℕ) (rest : List ℕ) where
  abbrev pub behind : ℕ → List ℕ
  behind t = drop (length (g t)) (drop (8 + length (cat t g)) (encode c g ++ rest))

  pub item-front : (t : ℕ) → t < c → drop (8 + length (cat t g)) (encode c g ++ rest) ≡ g t ++ behind t
  unfolding encode
  item-front t l =
      sym (take-append-drop (length (g t)) (drop (8 + length (cat t g)) (encode c g ++ rest))) ∙ ap (λ (x : List ℕ). x ++ behind t) front
    where
      past : drop (8 + length (cat t g)) ((le8 c ++ cat c g) ++ rest) ≡ drop (length (cat t g)) (cat c g ++ rest)
      past =
          ap₂ (λ n (x : List ℕ). drop (n + length (cat t g)) x) (sym (length-le8 c)) (append_assoc (le8 c) (cat c g) rest)
          ∙ drop-append-add (le8 c) (cat c g ++ rest) (length (cat t g))

      front : take (length (g t)) (drop (8 + length (cat t g)) ((le8 c ++ cat c g) ++ rest)) ≡ g t
      front =
          let w = cat-inside c g t l in
          ap (take (length (g t))) (past ∙ drop-append-le (length (cat t g)) (cat c g) rest (omega arith))
          ∙ take-append-le (length (g t)) (drop (length (cat t g)) (cat c g)) rest (rw length-drop (omega arith))
          ∙ cat-part c g t l

  -- items of one length
  pub encode-item : (size : ℕ) → ((t : ℕ) → t < c → length (g t) ≡ size) → (t : ℕ) → t < c
      → take size (drop (8 + t * size) (encode c g ++ rest)) ≡ g t
  encode-item size long t l =
      ap (λ a. take size (drop (8 + a) (encode c g ++ rest))) (sym (length-cat t size g (λ j k. long j (omega arith))))
      ∙ ap (take size) (item-front t l) ∙ take_at (g t) (behind t) size (long t l)

pub whole_length : (c : ℕ) (g : ℕ → List ℕ) → length (encode c g) ≡ 8 + length (cat c g)
unfolding encode
whole_length c g = length-append (le8 c) (cat c g) ∙ ap (λ n. n + length (cat c g)) (length-le8 c)

module _ (K : Kind) (c : ℕ) (g : ℕ → List ℕ) (small : c < 2 ^ 64) (coded : (t : ℕ) → t < c → Coded K (g t)) where
  abbrev m : List ℕ
  m = encode c g

  front : (t : ℕ) → t < c → drop (8 + length (cat t g)) m ≡ g t ++ behind c g [] t
  front t l = ap (drop (8 + length (cat t g))) (sym (append-nil m)) ∙ item-front c g [] t l

  starts : (t : ℕ) → t ≤ c → item_at K m t ≡ 8 + length (cat t g)
  unfolding item_at cat
  starts zero h = refl
  starts (suc t) h =
      let e = starts t (omega arith) in
      let n : item_len K (drop (item_at K m t) m) ≡ length (g t) =
      ap (λ a. item_len K (drop a m)) e ∙ ap (item_len K) (front t h) ∙ (coded t h).len (behind c g [] t) in
      omega (arith, e, n, length-append (cat t g) (g t))

  here : (t : ℕ) → t < c → drop (item_at K m t) m ≡ g t ++ behind c g [] t
  here t l = ap (λ a. drop a m) (starts t (omega arith)) ∙ front t l

  counted : count_of m ≡ c
  counted = ap count_of (sym (append-nil m)) ∙ count-encode c g [] small

  read : decodes K m ≡ true
  read =
      decodes-of K m (record {
        head = omega (arith, whole_length c g);
        item = λ t l. let l' : t < c = omega (arith, counted) in rw (here t l', (coded t l').len) (coded t l').some;
      })

  -- to the last byte
  used : item_at K m (count_of m) ≡ length m
  used = ap (item_at K m) counted ∙ starts c (omega arith) ∙ sym (whole_length c g)

  inner : inners_due K c m ≡ true
  unfolding inners_due
  inner =
      all_of_lem c (λ t. item_due K (item_of K (drop (item_at K m t) m)))
      (λ t l. ap (λ (s : List ℕ). item_due K (item_of K s)) (here t l) ∙ (coded t l).due (behind c g [] t))

  pub trip : Trip K c g (encode c g)
  trip = record {
    decodes-is = read;
    count-is = counted;
    at = starts;
    form-is = form-of K c m (record { decodes-is = read; used-is = used; count-is = counted; inner-is = inner });
    item = λ t l. ap (take (length (g t))) (here t l) ∙ take_at (g t) (behind c g [] t) (length (g t)) refl;
  }

-- ---- items of one length
module _ (K : Kind) (size c : ℕ) (g : ℕ → List ℕ) (long : (t : ℕ) → t < c → length (g t) ≡ size) (m : List ℕ) (w : Trip K c g m) where
  pub even-at : (t : ℕ) → t ≤ c → item_at K m t ≡ 8 + t * size
  even-at t l = w.at t l ∙ ap (λ n. 8 + n) (length-cat t size g (λ j k. long j (omega arith)))

  pub even-item : (t : ℕ) → t < c → take size (drop (8 + t * size) m) ≡ g t
  even-item t l = ap₂ (λ n a. take n (drop a m)) (sym (long t l)) (sym (even-at t (omega arith))) ∙ w.item t l
