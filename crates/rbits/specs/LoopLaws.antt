-- What a loop has done that writes an array from the front: one number a turn, or the two words of a Block.
use Rattle.std.specs.Prelude.{◌≡◌, refl, List, [], ◌∷◌, ◌++◌, ℕ, ◌+◌, ◌*◌, ◌<◌, ◌≤◌, length, get_or, set, drop}
use Rattle.std.proofs.Common.{sym, ap, ap₂, ◌∙◌, append_assoc, add-one, arith, length-append, length-set}
use Rattle.lists.specs.Over.{tab, cat, tab-zero, tab-step, tab-end, over-set, over-get, length-tab, Written}
use Rattle.block.specs.declared.Block.{Block}

-- d is l with f 0 .. f (j - 1) in its front
pub record Filled (f : ℕ → ℕ) (j : ℕ) (l d : List ℕ) : Type 0 where
  pub here : d ≡ tab j f ++ drop j l
  pub same : length d ≡ length l

pub filled_zero : (f : ℕ → ℕ) (l : List ℕ) → Filled f 0 l l
filled_zero f l = record { here = tab-zero f l; same = refl }

pub filled-turn : (f : ℕ → ℕ) (j : ℕ) (l d : List ℕ) (x : ℕ) → Filled f j l d → x ≡ f j → j < length l → Filled f (j + 1) l (set d j x)
filled-turn f j l d x w e h = record { here = rw (w.here, e) (tab-step j f l h); same = length-set d j x ∙ w.same }

-- what is not written yet is the old one
pub filled-get : (f : ℕ → ℕ) (j : ℕ) (l d : List ℕ) → Filled f j l d → j < length l → get_or d j 0 ≡ get_or l j 0
filled-get f j l d w h = ap (λ (x : List ℕ). get_or x j 0) w.here ∙ over-get (tab j f) l j 0 (length-tab j f) h

pub filled-end : (f : ℕ → ℕ) (j n : ℕ) (l d : List ℕ) → Filled f j l d → j ≡ n → n ≡ length l → d ≡ tab n f
filled-end f j n l d w e h = tab-end j n f l d w.here e h

-- ---- Blocks as two words each
abbrev pub pair_of : (ℕ → Block) → ℕ → List ℕ
pair_of f j = (f j).0 ∷ (f j).1 ∷ []

pub pair_turn : (f : ℕ → Block) (j : ℕ) (l d : List ℕ) (x y : ℕ) → Written (pair_of f) j (j * 2) l d → x ≡ (f j).0 → y ≡ (f j).1
    → j * 2 + 2 ≤ length l
    → Written (pair_of f) (j + 1) ((j + 1) * 2) l (set (set d (j * 2) x) (j * 2 + 1) y)
unfolding cat
pair_turn f j l d x y w ex ey h = record {
  here = whole;
  at = end;
  fits = omega arith;
  same = length-set (set d (j * 2) x) (j * 2 + 1) y ∙ length-set d (j * 2) x ∙ w.same;
}
  where
    p : List ℕ
    p = cat j (pair_of f)

    one : length (p ++ (x ∷ [])) ≡ j * 2 + 1
    one = length-append p (x ∷ []) ∙ ap (λ n. n + 1) w.at

    whole : set (set d (j * 2) x) (j * 2 + 1) y ≡ cat (j + 1) (pair_of f) ++ drop ((j + 1) * 2) l
    whole =
        rw (w.here, over-set p l (j * 2) x w.at (omega arith), over-set (p ++ (x ∷ [])) l (j * 2 + 1) y one (omega arith))
        (ap₂ (λ (q : List ℕ) n. q ++ drop n l)
        (append_assoc p (x ∷ []) (y ∷ []) ∙ ap₂ (λ u v. p ++ (u ∷ v ∷ [])) ex ey ∙ sym (ap (λ n. cat n (pair_of f)) (add-one j)))
        (let e : j * 2 + 1 + 1 ≡ (j + 1) * 2 = omega arith in e))

    end : length (cat (j + 1) (pair_of f)) ≡ (j + 1) * 2
    end = rw (add-one j, cat, length-append) (omega (arith, w.at))
