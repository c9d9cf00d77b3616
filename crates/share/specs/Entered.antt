-- A record that is written entry by entry, and its head at the end.
use Rattle.std.specs.Prelude.{◌≡◌, refl, Bool, length}
use Rattle.std.proofs.Math.Path.{sym, ap}
use Rattle.std.proofs.Common.{ap₂, ◌∙◌, add-one, arith, length-append, length-drop, drop_at, length-take-le}
use mathlib.Core.List.{List, ◌++◌, append-nil, append_assoc}
use Prim.Native.Nat.{ℕ, ◌+◌, ◌-◌, ◌<◌, ◌≤◌}
use Rattle.std.proofs.Math.ListN.{take, drop, take-append-drop}
use borrow.Rule.Slice.PartMut.{put_mid}
use Rattle.lists.specs.Over.{cat, length-cat, over-next, over-length, over-full}
use Rattle.share.specs.Layout.{ENTRY, head_of, record_len, mac_off, head-end, mac-next, mac-behind, record-ends, entry-within}

-- a record among n parties: d is l with its first k entries overwritten by g 0, .., g (k - 1)
pub record Entered (g : ℕ → List ℕ) (n k : ℕ) (l d : List ℕ) : Type 0 where
  pub here : d ≡ (take (mac_off 0) l ++ cat k g) ++ drop (mac_off k) l
  pub same : length d ≡ length l
  pub long : (j : ℕ) → length (g j) ≡ ENTRY
  pub whole : length l ≡ record_len n

-- a record has a head
pub head_in : (n : ℕ) → mac_off 0 ≤ record_len n
head_in n = omega (arith, record-ends n, mac-behind n)

module _ (g : ℕ → List ℕ) (n : ℕ) (l : List ℕ) (long : (j : ℕ) → length (g j) ≡ ENTRY) (whole : length l ≡ record_len n) where
  written : (k : ℕ) → length (take (mac_off 0) l ++ cat k g) ≡ mac_off k
  written k =
      length-append (take (mac_off 0) l) (cat k g)
      ∙ ap₂ ◌+◌ (length-take-le (mac_off 0) l (omega (arith, head_in n))) (length-cat k ENTRY g (λ j h. long j)) ∙ sym (mac-behind k)

  pub entered-none : Entered g n 0 l l
  unfolding cat
  entered-none = record {
    here = sym (ap (λ (s : List ℕ). s ++ drop (mac_off 0) l) (append-nil (take (mac_off 0) l)) ∙ take-append-drop (mac_off 0) l);
    same = refl;
    long = long;
    whole = whole;
  }

module _ {g : ℕ → List ℕ} {n k : ℕ} {l d : List ℕ} (f : Entered g n k l d) where
  done : (j : ℕ) → length (take (mac_off 0) l ++ cat j g) ≡ mac_off j
  done = written g n l f.long f.whole

  -- the part from a to e is entry k
  module _ (a e : ℕ) (start : a ≡ mac_off k) (end : e ≡ a + ENTRY) where
    pub entered-turn : (x : List ℕ) → k < n → x ≡ g k → Entered g n (k + 1) l (put_mid a (e - a) d x)
    unfolding cat
    entered-turn x h hx =
        let o : List ℕ = take (mac_off 0) l in
        let p : put_mid a (e - a) d x ≡ (o ++ cat (k + 1) g) ++ drop (mac_off (k + 1)) l =
        over-next (o ++ cat k g) (g k) x l d a (e - a) (mac_off (k + 1)) (f.here ∙ ap (λ m. (o ++ cat k g) ++ drop m l) (sym start))
        (done k ∙ sym start) hx (omega (arith, mac-next k))
        ∙ ap (λ (s : List ℕ). s ++ drop (mac_off (k + 1)) l)
        (append_assoc o (cat k g) (g k) ∙ ap (λ j. o ++ cat j g) (sym (add-one k))) in
        record {
          here = p;
          same = over-length (o ++ cat (k + 1) g) l (put_mid a (e - a) d x) (mac_off (k + 1)) p (done (k + 1))
              (omega (arith, f.whole, entry-within n k h, mac-next k));
          long = f.long;
          whole = f.whole;
        }

  -- after the last turn, with the head
  pub entered-head : (h : List ℕ) → k ≡ n → h ++ drop (mac_off 0) d ≡ h ++ cat n g
  entered-head h e =
      let o : List ℕ = take (mac_off 0) l in
      ap (λ (s : List ℕ). h ++ s)
      (ap (drop (mac_off 0)) (f.here ∙ over-full (o ++ cat k g) l (mac_off k) (omega (arith, f.whole, record-ends n, ap mac_off e)))
      ∙ drop_at o (cat k g) (mac_off 0) (length-take-le (mac_off 0) l (omega (arith, f.whole, head_in n))) ∙ ap (λ m. cat m g) e)

  pub entered-long : mac_off 0 ≤ length d
  entered-long = omega (arith, f.same, f.whole, head_in n)

-- a new head is as long as the old one
pub headed : (b : Bool) (d : List ℕ) → mac_off 0 ≤ length d → length (head_of b ++ drop (mac_off 0) d) ≡ length d
headed b d h = length-append (head_of b) (drop (mac_off 0) d) ∙ omega (arith, head-end b, length-drop (mac_off 0) d)
