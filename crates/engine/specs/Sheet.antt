-- The sheet of a session: what each section of each box's work area holds, and what each box sends to each, when each round is due. A
-- round is then shown honest box by box: from a work area and messages that are as the sheet says, it passes, and leaves and writes what
-- the sheet says next.
use Rattle.std.specs.Prelude.{◌≡◌, Bool, true, false, ◌≢◌, length, eqb}
use Rattle.std.proofs.Math.Path.{refl, subst}
use Rattle.std.proofs.Common.{sym, ap, ◌∙◌, arith, eqb-true, eq-eqb}
use mathlib.Core.List.{List, [], ◌∷◌}
use Prim.Native.Nat.{ℕ, zero, suc, ◌<◌, ◌≤◌}
use Rattle.std.proofs.lemmas.Bool.{eqb-false}
use Rattle.lists.specs.Pick.{pick}
use Rattle.lists.specs.Over.{cat}
use Rattle.lists.specs.All.{all_of, of-all}
use Rattle.engine.specs.Step.{Frame, frame, Loan, Protocol, stretch}
use Rattle.engine.specs.StepLaws.{mask_at}
use Rattle.engine.specs.Engine.{Joint, mail_of, together, HonestRound}
use Rattle.engine.specs.Area.{off, sec, put_sec, length-put_sec, sec-same, sec-other, length-lay, sec-lay, to_others, stretch-to_others}
use Rattle.engine.specs.Area.{mem, Every, every-mem}

-- ---- sections written one after another
-- the sections of a list filled, each with v of it; the first of the list last
unfoldable pub put_all : (ℕ → ℕ) → List ℕ → (ℕ → List ℕ) → List ℕ → List ℕ
put_all size [] v w = w
put_all size (s ∷ ss) v w = put_sec size s (v s) (put_all size ss v w)

mem-more : (s t : ℕ) (ts : List ℕ) → mem s ts ≡ true → mem s (t ∷ ts) ≡ true
unfolding mem
mem-more s t ts h = go (eqb s t)
  where
    go : (b : Bool) → pick b true (mem s ts) ≡ true
    go true = refl
    go false = h

mem-head : (t : ℕ) (ts : List ℕ) → mem t (t ∷ ts) ≡ true
unfolding mem
mem-head t ts = rw (eq-eqb t t refl) refl

module _ (size : ℕ → ℕ) (total : ℕ) (v : ℕ → List ℕ) (w : List ℕ) (h : length w ≡ off size total) where
  abbrev Fits : List ℕ → Type 0
  Fits ss = (s : ℕ) → mem s ss ≡ true → (s < total) × (length (v s) ≡ size s)

  pub length-put_all : (ss : List ℕ) → Fits ss → length (put_all size ss v w) ≡ off size total
  unfolding put_all
  length-put_all [] f = h
  length-put_all (t ∷ ts) f =
      let e = f t (mem-head t ts) in
      length-put_sec size total (put_all size ts v w) (length-put_all ts (λ s m. f s (mem-more s t ts m))) t (v t) e.0 e.1

  pub sec-put_all : (ss : List ℕ) → Fits ss → (s : ℕ) → s < total → sec size s (put_all size ss v w) ≡ pick (mem s ss) (v s) (sec size s w)
  unfolding put_all mem
  sec-put_all [] f s l = refl
  sec-put_all (t ∷ ts) f s l = go (eqb s t) refl (sec-put_all ts (λ s m. f s (mem-more s t ts m)) s l)
    where
      u : List ℕ
      u = put_all size ts v w

      lu : length u ≡ off size total
      lu = length-put_all ts (λ s m. f s (mem-more s t ts m))

      fit : (s < total) × (length (v t) ≡ size t)
      fit = (l, (f t (mem-head t ts)).1)

      go : (b : Bool) → eqb s t ≡ b → sec size s u ≡ pick (mem s ts) (v s) (sec size s w)
          → sec size s (put_sec size t (v t) u) ≡ pick (pick b true (mem s ts)) (v s) (sec size s w)
      go true e ih =
          let q : s ≡ t = eqb-true s t e in
          subst (λ i. sec size s (put_sec size i (v i) u) ≡ v s) q
          (sec-same size total u lu s (v s) l (subst (λ i. length (v i) ≡ size i) (sym q) fit.1))
      go false e ih = sec-other size total u lu s t (v t) (f t (mem-head t ts)).0 (eqb-false s t e) fit.1 ∙ ih

-- ---- what the sections hold
-- total, size: the sections; of the first `count` of them, ready t s: section s holds its value at moment t; val t i s: that value, in
-- box i
pub record Store : Type 0 where
  pub total : ℕ
  pub count : ℕ
  pub size : Frame → ℕ → ℕ
  pub ready : ℕ → ℕ → Bool
  pub val : ℕ → ℕ → ℕ → List ℕ

module _ (n l : ℕ) (C : Store) where
  -- a work area of box i that is as the store says at moment t
  pub record Known (t i : ℕ) (w : List ℕ) : Type 0 where
    pub long : length w ≡ off (C.size (frame n l i)) C.total
    pub has : (s : ℕ) → s < C.count → C.ready t s ≡ true → sec (C.size (frame n l i)) s w ≡ C.val t i s

  -- from moment t to moment u the sections of a list are filled, and the others stay
  pub record Fills (t u : ℕ) (fills : List ℕ) : Type 0 where
    pub fits : (i s : ℕ) → i < n → mem s fills ≡ true → (s < C.count) × (length (C.val u i s) ≡ C.size (frame n l i) s)
    pub stays : (i s : ℕ) → i < n → s < C.count → mem s fills ≡ false → C.ready u s ≡ true
        → (C.ready t s ≡ true) × (C.val t i s ≡ C.val u i s)

  pub filled : C.count ≤ C.total → (t u : ℕ) (fills : List ℕ) → Fills t u fills → (i : ℕ) → i < n → (w : List ℕ) → Known t i w
      → Known u i (put_all (C.size (frame n l i)) fills (C.val u i) w)
  filled le t u fills F i li w h = record {
    long = length-put_all size C.total (C.val u i) w h.long fills fits;
    has = λ s ls r. sec-put_all size C.total (C.val u i) w h.long fills fits s (omega arith) ∙ go s ls r (mem s fills) refl;
  }
    where
      size : ℕ → ℕ
      size = C.size (frame n l i)

      fits : (s : ℕ) → mem s fills ≡ true → (s < C.total) × (length (C.val u i s) ≡ size s)
      fits s m = let e = F.fits i s li m in (omega (arith, e.0), e.1)

      go : (s : ℕ) → s < C.count → C.ready u s ≡ true → (b : Bool) → mem s fills ≡ b → pick b (C.val u i s) (sec size s w) ≡ C.val u i s
      go s ls r true e = refl
      go s ls r false e = let y = F.stays i s li ls e r in h.has s ls y.0 ∙ y.1

  -- a work area that opening lays out section by section
  pub known-lay : C.count ≤ C.total → (t i : ℕ) (c : ℕ → List ℕ) → ((s : ℕ) → s < C.total → length (c s) ≡ C.size (frame n l i) s)
      → ((s : ℕ) → s < C.count → C.ready t s ≡ true → c s ≡ C.val t i s) → Known t i (cat C.total c)
  known-lay le t i c h e = record {
    long = length-lay (C.size (frame n l i)) C.total c h;
    has = λ s ls r. sec-lay (C.size (frame n l i)) C.total c h s (omega arith) ∙ e s ls r;
  }

-- `stays` by one computed test: a section that is ready next is filled now, or was ready
unfoldable pub stays_test : Store → ℕ → ℕ → List ℕ → Bool
stays_test C t u fills = all_of C.count (λ s. pick (mem s fills) true (pick (C.ready u s) (C.ready t s) true))

stays_by : (C : Store) (t u : ℕ) (fills : List ℕ) → stays_test C t u fills ≡ true
    → (s : ℕ) → s < C.count → mem s fills ≡ false → C.ready u s ≡ true → C.ready t s ≡ true
unfolding stays_test
stays_by C t u fills h s l e r = go (of-all C.count _ h s l)
  where
    go : pick (mem s fills) true (pick (C.ready u s) (C.ready t s) true) ≡ true → C.ready t s ≡ true
    go = rw (e, r) (λ z. z)

-- where a section's value is the same at all moments: the lengths of those that are filled, and the test
pub fills-by : (n l : ℕ) (C : Store) (t u : ℕ) (fills : List ℕ) → ((i s : ℕ) → C.val t i s ≡ C.val u i s)
    → Every (λ s. (s < C.count) × ((i : ℕ) → i < n → length (C.val u i s) ≡ C.size (frame n l i) s)) fills
    → stays_test C t u fills ≡ true → Fills n l C t u fills
fills-by n l C t u fills same fit test = record {
  fits = λ i s li m. let e = every-mem _ fills fit s m in (e.0, e.1 i li);
  stays = λ i s li ls z r. (stays_by C t u fills test s ls z r, same i s);
}

-- ---- the sheet
-- store: what is held when round k is due (its moments are the rounds' numbers); sent k j r: what j sends to r for round k; result i:
-- what the last call of i writes
pub record Sheet : Type 0 where
  pub store : Store
  pub sent : ℕ → ℕ → ℕ → List ℕ
  pub result : ℕ → List ℕ

-- messages to box i that are as sent says: sent j r is what j sends to r
abbrev pub Mail : ℕ → (ℕ → ℕ → List ℕ) → ℕ → (ℕ → List ℕ) → Type 0
Mail n sent i m = (j : ℕ) → j < n → i ≢ j → m j ≡ sent j i

module _ (P : Protocol) (n l : ℕ) (loans : ℕ → Loan) (T : Sheet) where
  -- a claim on every box that takes round k with a work area and messages as the sheet says
  abbrev pub Each : ℕ → (ℕ → List ℕ → (ℕ → List ℕ) → Type 0) → Type 0
  Each k Q =
      (i : ℕ) → i < n → (w : List ℕ) → Known n l T.store k i w → (m : ℕ → List ℕ) → Mail n (T.sent k) i m
      → Q i w m

  -- what has to be shown of any round k
  pub record Passes (k : ℕ) : Type 0 where
    pub lens : (j r : ℕ) → j < n → r < n → j ≢ r → length (T.sent k j r) ≡ P.msg_len n l k
    pub formed : (i j : ℕ) → i < n → j < n → i ≢ j → (P.rule k).form (frame n l i) (T.sent k j i) ≡ 0
    pub passes : Each k (λ i w m. ((P.rule k).check (frame n l i) (loans k) w m).code ≡ 0)

  -- of a round that another one follows
  pub record Middle (k : ℕ) : Type 0 where
    pub pass : Passes k
    pub to : ℕ
    pub to_is : P.next n k ≡ suc to
    pub keeps : Each k (λ i w m. Known n l T.store (suc to) i ((P.rule k).keep (frame n l i) (loans k) w m))
    pub writes : Each k (λ i w m. (P.rule k).write (frame n l i) (loans k) w m ≡ to_others n i (T.sent (suc to) i))

  -- of the last round
  pub record Last (k : ℕ) : Type 0 where
    pub pass : Passes k
    pub to_is : P.next n k ≡ 0
    pub writes : Each k (λ i w m. (P.rule k).write (frame n l i) (loans k) w m ≡ T.result i)

  -- what holds of all boxes when round k is due; 0: all are done
  abbrev pub Holds : ℕ → Joint → Type 0
  Holds zero G = (i : ℕ) → i < n → G.out i ≡ T.result i
  Holds (suc k) G =
      ((i : ℕ) → i < n → Known n l T.store (suc k) i (G.work i)) × ((j : ℕ) → j < n → G.out j ≡ to_others n j (T.sent (suc k) j))

  module _ (area : (i : ℕ) → P.work_len (frame n l i) ≡ off (T.store.size (frame n l i)) T.store.total) (k : ℕ) where
    module _ (A : Passes (suc k)) where
      arrives : (G : Joint) → Holds (suc k) G → (i j : ℕ) → i < n → j < n → i ≢ j
          → stretch (P.msg_len n l (suc k)) j i (G.out j) ≡ T.sent (suc k) j i
      arrives G h i j li lj ne =
          ap (stretch (P.msg_len n l (suc k)) j i) (h.1 j lj)
          ∙ stretch-to_others (P.msg_len n l (suc k)) n j (T.sent (suc k) j) (λ r lr ne'. A.lens j r lj lr ne') i lj li (λ e. ne (sym e))

      mail-ok : (G : Joint) → Holds (suc k) G → (i : ℕ) → i < n → Mail n (T.sent (suc k)) i (mail_of P n l loans (suc k) G i)
      unfolding mail_of
      mail-ok G h i li j lj ne =
          mask_at (frame n l i) (λ j. stretch (P.msg_len n l (suc k)) j i (G.out j)) j lj ne ∙ arrives G h i j li lj ne

      honest-by : ((G : Joint) → Holds (suc k) G → Holds (P.next n (suc k)) (together P n l loans (suc k) G))
          → HonestRound P n l loans Holds (suc k)
      honest-by goes = record {
        sized = λ G h i li. (h.0 i li).long ∙ sym (area i);
        formed = λ G h i j li lj ne. ap ((P.rule (suc k)).form (frame n l i)) (arrives G h i j li lj ne) ∙ A.formed i j li lj ne;
        passes = λ G h i li. A.passes i li (G.work i) (h.0 i li) (mail_of P n l loans (suc k) G i) (mail-ok G h i li);
        goes = goes;
      }

    -- the engine's duty for a round, from its record
    pub middle : Middle (suc k) → HonestRound P n l loans Holds (suc k)
    unfolding together
    middle M = honest-by M.pass (λ G h. subst (λ m. Holds m (together P n l loans (suc k) G)) (sym M.to_is) (next G h))
      where
        mails : (G : Joint) → Holds (suc k) G → (i : ℕ) → i < n → Mail n (T.sent (suc k)) i (mail_of P n l loans (suc k) G i)
        mails = mail-ok M.pass

        next : (G : Joint) → Holds (suc k) G → Holds (suc M.to) (together P n l loans (suc k) G)
        next G h = (
          λ i li. M.keeps i li (G.work i) (h.0 i li) (mail_of P n l loans (suc k) G i) (mails G h i li),
          λ j lj. M.writes j lj (G.work j) (h.0 j lj) (mail_of P n l loans (suc k) G j) (mails G h j lj),
        )

    pub last : Last (suc k) → HonestRound P n l loans Holds (suc k)
    unfolding together
    last M = honest-by M.pass (λ G h. subst (λ m. Holds m (together P n l loans (suc k) G)) (sym M.to_is) (done G h))
      where
        done : (G : Joint) → Holds (suc k) G → Holds 0 (together P n l loans (suc k) G)
        done G h i li = M.writes i li (G.work i) (h.0 i li) (mail_of P n l loans (suc k) G i) (mail-ok M.pass G h i li)
