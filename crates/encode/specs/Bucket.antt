-- Writing a bucket's d values and MACs into an exact stretch: both counts, then one d and its MAC after another.
use Rattle.std.specs.Prelude.{◌≡◌, Bool, length, take, drop, set}
use Rattle.std.proofs.Math.Path.{sym, ap, ap₂}
use Rattle.std.proofs.Common.{◌∙◌, add-one, arith, length-set, take-append-drop, take-suc-set, drop-set-lt, take_all, take-add, drop-drop}
use mathlib.Core.List.{List, [], ◌∷◌, ◌++◌, append_assoc, append-nil}
use Prim.Native.Nat.{ℕ, suc, ◌+◌, ◌-◌, ◌*◌, ◌<◌}
use Rattle.std.proofs.Math.ListN.{length-drop}
use Rattle.lists.specs.Over.{tab, cat}
use Rattle.lists.specs.Sect.{get, put, length-put, get-put-same, get-put-before}
use Rattle.algebra.specs.Group.{num}
use Rattle.block.specs.declared.Block.{Block}
use Rattle.block.specs.Block.{le8, bytes_of}
use Rattle.block.specs.Trip.{length-le8, length-bytes_of}
use Rattle.encode.specs.Encode.{encode, dvalue_item}
use Rattle.encode.specs.Fields.{cat-tab}

-- the two counts in place
unfoldable pub counts : ℕ → List ℕ → List ℕ
counts due l = put (8 + due) 8 (le8 due) (put 0 8 (le8 due) l)

-- d value k and its MAC in place
unfoldable pub dvalue_in : ℕ → ℕ → Bool → Block → List ℕ → List ℕ
dvalue_in due k d x l = put (16 + due + k * 16) 16 (bytes_of x) (set l (8 + k) (num d))

pub length-dvalue_in : (due k : ℕ) (d : Bool) (x : Block) (l : List ℕ) → length l ≡ 16 + due * 17 → k < due
    → length (dvalue_in due k d x l) ≡ length l
unfolding dvalue_in
length-dvalue_in due k d x l h j =
    length-put (16 + due + k * 16) 16 (bytes_of x) (set l (8 + k) (num d)) (length-bytes_of x) (omega (arith, length-set l (8 + k) (num d)))
    ∙ length-set l (8 + k) (num d)

-- both counts and the first j of each list are written
pub record Filled (due : ℕ) (d : ℕ → Bool) (x : ℕ → Block) (j : ℕ) (l : List ℕ) : Type 0 where
  pub long : length l ≡ 16 + due * 17
  pub bits : take (8 + j) l ≡ le8 due ++ tab j (λ k. num (d k))
  pub macs : get (8 + due) (8 + j * 16) l ≡ le8 due ++ cat j (λ k. bytes_of (x k))

module _ (due : ℕ) (d : ℕ → Bool) (x : ℕ → Block) where
  pub filled-start : (l : List ℕ) → length l ≡ 16 + due * 17 → Filled due d x 0 (counts due l)
  unfolding counts tab cat
  filled-start l h = record {
    long = length-put (8 + due) 8 (le8 due) once (length-le8 due) (omega (arith, once-long)) ∙ once-long;
    bits =
        get-put-before 0 8 (8 + due) 8 (le8 due) once (omega arith) (omega (arith, once-long))
        ∙ get-put-same 0 8 (le8 due) l (length-le8 due) (omega arith) ∙ sym (append-nil (le8 due));
    macs = get-put-same (8 + due) 8 (le8 due) once (length-le8 due) (omega (arith, once-long)) ∙ sym (append-nil (le8 due));
  }
    where
      once : List ℕ
      once = put 0 8 (le8 due) l

      once-long : length once ≡ 16 + due * 17
      once-long = length-put 0 8 (le8 due) l (length-le8 due) (omega arith) ∙ h

  pub filled-turn : (j : ℕ) (l : List ℕ) → j < due → Filled due d x j l → Filled due d x (j + 1) (dvalue_in due j (d j) (x j) l)
  unfolding dvalue_in tab cat
  filled-turn j l h w = record { long = length-put at 16 (bytes_of (x j)) once (length-bytes_of (x j)) (omega (arith, once-long)) ∙ once-long; bits = first; macs = second }
    where
      at : ℕ
      at = 16 + due + j * 16

      once : List ℕ
      once = set l (8 + j) (num (d j))

      once-long : length once ≡ 16 + due * 17
      once-long = length-set l (8 + j) (num (d j)) ∙ w.long

      first : take (8 + (j + 1)) (put at 16 (bytes_of (x j)) once) ≡ le8 due ++ tab (j + 1) (λ k. num (d k))
      first =
          get-put-before 0 (8 + (j + 1)) at 16 (bytes_of (x j)) once (omega arith) (omega (arith, once-long))
          ∙ ap (λ n. take n once) (let p : 8 + (j + 1) ≡ suc (8 + j) = omega arith in p)
          ∙ take-suc-set l (8 + j) (num (d j)) (omega (arith, w.long))
          ∙ ap (λ (s : List ℕ). s ++ (num (d j) ∷ [])) w.bits
          ∙ append_assoc (le8 due) (tab j (λ k. num (d k))) (num (d j) ∷ [])
          ∙ ap (λ n. le8 due ++ tab n (λ k. num (d k))) (sym (add-one j))

      second : get (8 + due) (8 + (j + 1) * 16) (put at 16 (bytes_of (x j)) once) ≡ le8 due ++ cat (j + 1) (λ k. bytes_of (x k))
      second =
          ap (λ n. get (8 + due) n written) (let p : 8 + (j + 1) * 16 ≡ (8 + j * 16) + 16 = omega arith in p)
          ∙ take-add (8 + j * 16) 16 (drop (8 + due) written)
          ∙ ap₂ ◌++◌ before after
          ∙ append_assoc (le8 due) (cat j (λ k. bytes_of (x k))) (bytes_of (x j))
          ∙ ap (λ n. le8 due ++ cat n (λ k. bytes_of (x k))) (sym (add-one j))
        where
          written : List ℕ
          written = put at 16 (bytes_of (x j)) once

          before : get (8 + due) (8 + j * 16) written ≡ le8 due ++ cat j (λ k. bytes_of (x k))
          before =
              get-put-before (8 + due) (8 + j * 16) at 16 (bytes_of (x j)) once (omega arith) (omega (arith, once-long))
              ∙ ap (take (8 + j * 16)) (drop-set-lt (8 + due) l (8 + j) (num (d j)) (omega arith)) ∙ w.macs

          after : take 16 (drop (8 + j * 16) (drop (8 + due) written)) ≡ bytes_of (x j)
          after =
              ap (take 16)
              (drop-drop (8 + j * 16) (8 + due) written ∙ ap (λ n. drop n written) (let p : 8 + due + (8 + j * 16) ≡ at = omega arith in p))
              ∙ get-put-same at 16 (bytes_of (x j)) once (length-bytes_of (x j)) (omega (arith, once-long))

  pub filled-end : (l : List ℕ) → Filled due d x due l → l ≡ dvalue_item due d x
  unfolding dvalue_item encode
  filled-end l w =
      sym (take-append-drop (8 + due) l)
      ∙ ap₂ ◌++◌ (w.bits ∙ ap (λ (s : List ℕ). le8 due ++ s) (sym (cat-tab due (λ k. num (d k)))))
      (sym (take_all (8 + due * 16) (drop (8 + due) l) (omega (arith, w.long, length-drop (8 + due) l))) ∙ w.macs)
