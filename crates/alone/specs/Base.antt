-- What every round's facts need: rows by party, and the sections of a work area that is as a store says.
use Rattle.std.specs.Prelude.{◌≡◌, refl, false, ◌≢◌, ℕ, ◌*◌, ◌<◌, length, replicate, ltb}
use Rattle.std.proofs.Common.{sym, ◌∙◌, arith, ltb-true}
use Rattle.std.proofs.Math.Path.{ap, subst}
use Rattle.std.proofs.Math.Bool.{true}
use mathlib.Core.List.{List, [], ◌∷◌}
use Rattle.std.proofs.lemmas.List.{length-replicate}
use Rattle.std.proofs.Math.Dec.{leb}
use Rattle.lists.specs.Pick.{pick}
use Rattle.lists.specs.Over.{length-cat}
use Rattle.lists.specs.Rows.{chunk, chunk-cat, cat-ext}
use Rattle.lists.specs.All.{true-false}
use Rattle.engine.specs.declared.Frame.{Frame}
use Rattle.engine.specs.Step.{frame, other}
use Rattle.engine.specs.StepLaws.{other-is, other-cases}
use Rattle.engine.specs.Area.{put_sec, length-put_sec, sec-other}
use Rattle.engine.specs.Sheet.{Store, Known, put_all, filled, stays_test, fills-by}
use Rattle.rounds.specs.Area.{ROUNDS_OWN, SECTIONS, size_of, at, keep, rows}
use Rattle.alone.specs.Holds.{since, store_of}

-- ---- rows by party
module _ (f : Frame) (c : ℕ) where
  pub rows_ext : (g h : ℕ → List ℕ) → ((k : ℕ) → k < f.n → f.i ≢ k → g k ≡ h k) → rows f c g ≡ rows f c h
  unfolding rows
  rows_ext g h e =
      cat-ext f.n _ _ (λ k l.
      other-cases f k (λ b. pick b (g k) (replicate c 0) ≡ pick b (h k) (replicate c 0)) (λ l' ne. e k l' ne) refl)

  module _ (g : ℕ → List ℕ) (h : (k : ℕ) → k < f.n → f.i ≢ k → length (g k) ≡ c) where
    row_len : (k : ℕ) → k < f.n → length (pick (other f k) (g k) (replicate c 0)) ≡ c
    row_len k l =
        other-cases f k (λ b. length (pick b (g k) (replicate c 0)) ≡ c) (λ l' ne. h k l' ne) (length-replicate {A = ℕ} c 0)

    pub length-rows : length (rows f c g) ≡ f.n * c
    unfolding rows
    length-rows = length-cat f.n c (λ k. pick (other f k) (g k) (replicate c 0)) row_len

    -- the row of another party
    pub chunk-rows : (k : ℕ) → k < f.n → f.i ≢ k → chunk c k (rows f c g) ≡ g k
    unfolding rows
    chunk-rows k l ne =
        chunk-cat c f.n (λ k. pick (other f k) (g k) (replicate c 0)) row_len k l
        ∙ ap (λ b. pick b (g k) (replicate c 0)) (other-is f k l ne)

-- ---- the sections of a work area; val i s: what section s of box i holds
module _ (n l : ℕ) (val : ℕ → ℕ → List ℕ) where
  -- section s, which is ready
  pub has-at : (s : ℕ) {t i : ℕ} {w : List ℕ} → Known n l (store_of val) t i w → ltb s ROUNDS_OWN ≡ true → leb (since s) t ≡ true
      → at (frame n l i) s w ≡ val i s
  unfolding at
  has-at s K ls r = K.has s (ltb-true s ROUNDS_OWN ls) r

  -- what section s holds is as long as the section
  abbrev pub Fit : ℕ → Type 0
  Fit s = (s < ROUNDS_OWN) × ((i : ℕ) → i < n → length (val i s) ≡ size_of (frame n l i) s)

  -- What is kept: from moment t to moment u the named sections come to hold their values, and no other is due by u. The tests are closed
  -- by `refl` under `unfolding stays_test all_of mem since`.
  module _ (t u i : ℕ) (li : i < n) {w : List ℕ} (K : Known n l (store_of val) t i w) where
    pub keep-none : stays_test (store_of val) t u [] ≡ true → Known n l (store_of val) u i w
    unfolding put_all
    keep-none test = filled n l (store_of val) (omega arith) t u [] (fills-by n l (store_of val) t u [] (λ i s. refl) tt test) i li w K

    -- what is put into a section that is not due by u is no value anybody relies on
    pub keep-free : (s : ℕ) (x : List ℕ) → stays_test (store_of val) t u [] ≡ true → s < ROUNDS_OWN → leb (since s) u ≡ false
        → length x ≡ size_of (frame n l i) s → Known n l (store_of val) u i (keep (frame n l i) s x w)
    unfolding keep
    keep-free s x test ls free long =
        let v = keep-none test in
        let size = size_of (frame n l i) in
        record {
          long = length-put_sec size SECTIONS w K.long s x (omega arith) long;
          has = λ r lr ready. sec-other size SECTIONS w K.long r s x (omega arith)
              (λ e. true-false (sym ready ∙ ap (λ a. leb (since a) u) e ∙ free)) long ∙ v.has r lr ready;
        }

    pub keep_one : (s : ℕ) (x : List ℕ) → stays_test (store_of val) t u (s ∷ []) ≡ true → Fit s → x ≡ val i s
        → Known n l (store_of val) u i (keep (frame n l i) s x w)
    unfolding put_all keep
    keep_one s x test fit e =
        subst (λ (y : List ℕ). Known n l (store_of val) u i (put_sec (size_of (frame n l i)) s y w)) (sym e)
        (filled n l (store_of val) (omega arith) t u (s ∷ [])
        (fills-by n l (store_of val) t u (s ∷ []) (λ i s. refl) (fit, tt) test) i li w K)

    pub keep_two : (s s' : ℕ) (x x' : List ℕ) → stays_test (store_of val) t u (s ∷ s' ∷ []) ≡ true → Fit s → Fit s'
        → x ≡ val i s → x' ≡ val i s' → Known n l (store_of val) u i (keep (frame n l i) s x (keep (frame n l i) s' x' w))
    unfolding put_all keep
    keep_two s s' x x' test fit fit' e e' =
        let size = size_of (frame n l i) in
        let C : Store = store_of val in
        subst (λ (y : List ℕ). Known n l C u i (put_sec size s y (put_sec size s' x' w))) (sym e)
        (subst (λ (y : List ℕ). Known n l C u i (put_sec size s (val i s) (put_sec size s' y w))) (sym e')
        (filled n l C (omega arith) t u (s ∷ s' ∷ []) (fills-by n l C t u (s ∷ s' ∷ []) (λ i s. refl) (fit, (fit', tt)) test) i li w K))
