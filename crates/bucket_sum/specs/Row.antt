-- A row of records that is written entry by entry: x at its start, z at its end, and between the two what stays.
use Rattle.std.specs.Prelude.{◌≡◌, Bool}
use Rattle.std.proofs.Math.Path.{refl, sym, ap, ap₂, subst}
use Rattle.std.proofs.Common.{◌∙◌, arith, length-drop, take_at, drop_at}
use mathlib.Core.List.{List, ◌++◌, append_assoc}
use Prim.Native.Nat.{ℕ, ◌+◌, ◌-◌, ◌<◌}
use Rattle.std.proofs.Math.ListN.{length, take, drop, length-append}
use Rattle.std.proofs.lemmas.List.{drop-append-le}
use Rattle.lists.specs.Over.{cat, over-full}
use Rattle.lists.specs.Sect.{get, put, get-rest, put_front, put_back}
use Rattle.share.specs.Layout.{ENTRY, head_of, mac_off, entry-within}
use Rattle.share.specs.Record.{record_len}
use Rattle.share.specs.Share.{Share, entry_of, record_of}
use Rattle.share.specs.ShareLaws.{length-entry_of, length-record_of}
use Rattle.share.specs.Entered.{Entered, entered-none, entered-turn, entered-head, entered-long}

-- the entries x and y of party k, written into the records at the start and at z
unfoldable pub put_entries : ℕ → ℕ → List ℕ → List ℕ → List ℕ → List ℕ
put_entries z k x y row = put (z + mac_off k) ENTRY y (put (mac_off k) ENTRY x row)

-- the heads of the two
unfoldable pub put_heads : ℕ → Bool → Bool → List ℕ → List ℕ
put_heads z a b row = let s = head_of a ++ drop (mac_off 0) row in take z s ++ (head_of b ++ drop (mac_off 0) (drop z s))

-- what two callees leave that were lent the row, and then its part from z on
pub heads-left : (z : ℕ) (a b : Bool) (row s y : List ℕ) → s ≡ head_of a ++ drop (mac_off 0) row
    → y ≡ head_of b ++ drop (mac_off 0) (get z (length s - z) s) → put z (length s - z) y s ≡ put_heads z a b row
unfolding put_heads
heads-left z a b row s y hs hy =
    ap (λ (l : List ℕ). take z s ++ l) (over-full y (drop z s) (length s - z) (omega (arith, length-drop z s)))
    ∙ ap (λ (l : List ℕ). take z s ++ l) (hy ∙ ap (λ (l : List ℕ). head_of b ++ drop (mac_off 0) l) (get-rest z s))
    ∙ ap (λ (l : List ℕ). take z l ++ (head_of b ++ drop (mac_off 0) (drop z l))) hs

-- the entries of the first k parties are written
pub record Rowed (n i k : ℕ) (x z : Share) (m row : List ℕ) : Type 0 where
  pub x₀ : List ℕ
  pub x₁ : List ℕ
  pub z₀ : List ℕ
  pub z₁ : List ℕ
  pub is : row ≡ x₁ ++ (m ++ z₁)
  pub x-part : Entered (entry_of i x) n k x₀ x₁
  pub z-part : Entered (entry_of i z) n k z₀ z₁

module _ (n i : ℕ) (x z : Share) (m : List ℕ) where
  pub rowed-none : (a b row : List ℕ) → length a ≡ record_len n → length b ≡ record_len n → row ≡ a ++ (m ++ b) → Rowed n i 0 x z m row
  rowed-none a b row ha hb e = record {
    x₀ = a;
    x₁ = a;
    z₀ = b;
    z₁ = b;
    is = e;
    x-part = entered-none (entry_of i x) n a (length-entry_of i x) ha;
    z-part = entered-none (entry_of i z) n b (length-entry_of i z) hb;
  }

  module _ {k : ℕ} {row : List ℕ} (w : Rowed n i k x z m row) (at : ℕ) (here : at ≡ record_len n + length m) where
    x-long : length w.x₁ ≡ record_len n
    x-long = w.x-part.same ∙ w.x-part.whole

    z-long : length w.z₁ ≡ record_len n
    z-long = w.z-part.same ∙ w.z-part.whole

    pub rowed-long : length row ≡ at + record_len n
    rowed-long =
        ap length w.is ∙ length-append w.x₁ (m ++ w.z₁)
        ∙ ap₂ ◌+◌ x-long (length-append m w.z₁)
        ∙ (let e : record_len n + (length m + length w.z₁) ≡ at + record_len n = omega (arith, z-long) in e)

    exact : mac_off k + ENTRY - mac_off k ≡ ENTRY
    exact = omega arith

    pub rowed-turn : k < n → (a b : List ℕ) → a ≡ entry_of i x k → b ≡ entry_of i z k → Rowed n i (k + 1) x z m (put_entries at k a b row)
    unfolding put_entries
    rowed-turn lt a b ha hb =
        let xs : List ℕ = put (mac_off k) ENTRY a w.x₁ in
        let zs : List ℕ = put (mac_off k) ENTRY b w.z₁ in
        let xe : Entered (entry_of i x) n (k + 1) w.x₀ xs =
        subst (λ j. Entered (entry_of i x) n (k + 1) w.x₀ (put (mac_off k) j a w.x₁)) exact
        (entered-turn w.x-part (mac_off k) (mac_off k + ENTRY) refl refl a lt ha) in
        let ze : Entered (entry_of i z) n (k + 1) w.z₀ zs =
        subst (λ j. Entered (entry_of i z) n (k + 1) w.z₀ (put (mac_off k) j b w.z₁)) exact
        (entered-turn w.z-part (mac_off k) (mac_off k + ENTRY) refl refl b lt hb) in
        record {
          x₀ = w.x₀;
          x₁ = xs;
          z₀ = w.z₀;
          z₁ = zs;
          is =
              ap (λ (s : List ℕ). put (at + mac_off k) ENTRY b s)
              (ap (put (mac_off k) ENTRY a) w.is
              ∙ put_front (mac_off k) ENTRY a w.x₁ (m ++ w.z₁) (omega (arith, x-long, entry-within n k lt))
              ∙ sym (append_assoc xs m w.z₁))
              ∙ put_back at (mac_off k) ENTRY b (xs ++ m) w.z₁
              (length-append xs m ∙ (let e : length xs + length m ≡ at = omega (arith, xe.same, xe.whole) in e))
              ∙ append_assoc xs m zs;
          x-part = xe;
          z-part = ze;
        }

    -- after the last turn, with the heads
    pub rowed-end : k ≡ n → (a b : Bool) → a ≡ x.bit → b ≡ z.bit
        → put_heads at a b row ≡ record_of n i x ++ (m ++ record_of n i z)
    unfolding put_heads record_of
    rowed-end e a b ha hb =
        let X : List ℕ = record_of n i x in
        let R : List ℕ = m ++ w.z₁ in
        let s : head_of a ++ drop (mac_off 0) row ≡ (X ++ m) ++ w.z₁ =
        ap (λ (l : List ℕ). head_of a ++ drop (mac_off 0) l) w.is
        ∙ ap (λ (l : List ℕ). head_of a ++ l) (drop-append-le (mac_off 0) w.x₁ R (entered-long w.x-part))
        ∙ sym (append_assoc (head_of a) (drop (mac_off 0) w.x₁) R)
        ∙ ap (λ (l : List ℕ). l ++ R) (entered-head w.x-part (head_of a) e ∙ ap (λ (b : Bool). head_of b ++ cat n (entry_of i x)) ha)
        ∙ sym (append_assoc X m w.z₁) in
        let p : length (X ++ m) ≡ at = length-append X m ∙ (let q : length X + length m ≡ at = omega (arith, length-record_of n i x) in q)
        in
        ap₂ (λ (l r : List ℕ). take at l ++ (head_of b ++ drop (mac_off 0) (drop at r))) s s
        ∙ ap₂ (λ (l r : List ℕ). l ++ (head_of b ++ drop (mac_off 0) r)) (take_at (X ++ m) w.z₁ at p) (drop_at (X ++ m) w.z₁ at p)
        ∙ ap (λ (l : List ℕ). (X ++ m) ++ l) (entered-head w.z-part (head_of b) e ∙ ap (λ (b : Bool). head_of b ++ cat n (entry_of i z)) hb)
        ∙ append_assoc X m (record_of n i z)
