-- The premises can be met: all boxes open, and then each takes each round in turn. The list is fair, and all end done.
use Rattle.std.specs.Prelude.{◌≡◌, Bool, true, false, ◌≢◌, List, [], ◌∷◌, ◌++◌, ℕ, zero, suc, ◌<◌, ◌≤◌, length, get_or, replicate, ltb}
use Rattle.std.proofs.Math.Path.{refl}
use Rattle.std.proofs.Common.{sym, ap, ◌∙◌, subst, le_refl, arith, ltb-true, ltb-false}
use Rattle.std.proofs.Math.Option.{Option, some, none}
use Rattle.std.proofs.lemmas.List.{length-replicate}
use Rattle.lists.specs.Over.{tab, length-tab, get_or-tab, cat}
use Rattle.lists.specs.Rows.{cat-inside, cat-part}
use Rattle.algebra.specs.Sum.{neq-true, neq-self}
use Rattle.engine.specs.Step.{frame, Lent, Protocol, gone, part, stretch, reason_of}
use Rattle.engine.specs.StepLaws.{lengths-hold}
use Rattle.engine.proofs.RoundLaws.{no-reason}
use Rattle.engine.specs.World.{In, here, there, All, update, Opening, Box, Note, note, World, Call, opening, turn, start, turned}
use Rattle.engine.specs.World.{after, run, runs, session_at, Scene, Course, Reads, its_own, Fair, FairList, Done}
use Rattle.engine.specs.Engine.{Joint, Duty}
use Rattle.engine.proofs.EngineLaws.{ideal, holds, NoteOk, Before, box_at, goes_on, every-done}
use Rattle.engine.specs.Live.{Cast}

update_same : {A : Type 0} (f : ℕ → A) (i : ℕ) (a : A) → update f i a i ≡ a
update_same f i a = rw (neq-self i) refl

update_other : {A : Type 0} (f : ℕ → A) (i j : ℕ) (a : A) → i ≢ j → update f i a j ≡ f j
update_other f i j a ne = rw (neq-true i j ne) refl

-- the last one below suc m, or one below m
up_to : (b m : ℕ) → b < suc m → (Q : ℕ → Type 0) → Q m → (b < m → Q b) → Q b
up_to b m h Q qm qb = go (ltb b m) refl
  where
    go : (t : Bool) → ltb b m ≡ t → Q b
    go true e = qb (ltb-true b m e)
    go false e = subst Q (let p : m ≡ b = omega (arith, ltb-false b m e) in p) qm

module _ {Args : Type 0} (S : Scene Args) (D : Duty S) (K : Cast S) where
  abbrev P : Protocol
  P = S.protocol

  abbrev O : Opening Args
  O = S.opens

  abbrev n : ℕ
  n = S.n

  abbrev C : Course S.protocol S.n S.l S.counts
  C = S.course

  abbrev on : ℕ → Joint
  on d = ideal S D d

  abbrev at : ℕ → ℕ → Box
  at d b = box_at S D d b

  -- what is lent to box b for round d: everybody's messages to it, one after another
  abbrev pieces : ℕ → ℕ → ℕ → List ℕ
  pieces d b j = stretch (P.msg_len n S.l (C.number d)) j b ((on d).out j)

  abbrev pub lent_for : ℕ → ℕ → Lent
  lent_for d b = record {
    incoming = cat n (pieces d b);
    starts = tab n (λ j. length (cat j (pieces d b)));
    lens = tab n (λ j. length (pieces d b j));
    missing = tab n (λ j. 0);
    loan = K.lends b (C.number d);
    out = replicate ((P.rule (C.number d)).out_len (frame n S.l b)) 0;
  }

  start-at : (d b j : ℕ) → j < n → get_or (lent_for d b).starts j 0 ≡ length (cat j (pieces d b))
  start-at d b j h = get_or-tab n j (λ j. length (cat j (pieces d b))) 0 h

  len-at : (d b j : ℕ) → j < n → get_or (lent_for d b).lens j 0 ≡ length (pieces d b j)
  len-at d b j h = get_or-tab n j (λ j. length (pieces d b j)) 0 h

  part-for : (d b j : ℕ) → j < n → part (lent_for d b) j ≡ pieces d b j
  unfolding part
  part-for d b j h = rw (start-at d b j h, len-at d b j h) (cat-part n (pieces d b) j h)

  -- the round-robin list
  abbrev pub open_all : ℕ → List (Call Args)
  open_all zero = []
  open_all (suc b) = open_all b ++ (opening b (K.args b) ∷ [])

  abbrev pub round_all : ℕ → ℕ → List (Call Args)
  round_all d zero = []
  round_all d (suc b) = round_all d b ++ (turn b (C.number d) (lent_for d b) ∷ [])

  abbrev pub robin : ℕ → List (Call Args)
  robin zero = open_all n
  robin (suc d) = robin d ++ round_all d n

  run-append : (w : World) (xs ys : List (Call Args)) → run P O w (xs ++ ys) ≡ run P O (run P O w xs) ys
  run-append w [] ys = refl
  run-append w (x ∷ xs) ys = run-append (after P O w x) xs ys

  fair-append : (w : World) (xs ys : List (Call Args)) → FairList S w xs → FairList S (run P O w xs) ys
      → FairList S w (xs ++ ys)
  fair-append w [] ys f g = g
  fair-append w (x ∷ xs) ys f g = (f.0, fair-append (after P O w x) xs ys f.1 g)

  abbrev note_at : ℕ → ℕ → Note
  note_at d b = note b d ((on d).out b)

  abbrev onward : World → ℕ → ℕ → World
  onward w d b = record { box = update w.box b (some (at d b)); log = note_at d b ∷ w.log }

  -- the boxes below m stand at e, the others as `rest` says; what all wrote at d, and those below m at e, is in the log
  pub record Stage (e m : ℕ) (rest : ℕ → Option Box) (w : World) : Type 0 where
    pub ahead : (b : ℕ) → b < m → w.box b ≡ some (at e b)
    pub behind : (b : ℕ) → m ≤ b → b < n → w.box b ≡ rest b
    pub wrote : (b : ℕ) → b < m → In (note_at e b) w.log

  stage-next : (e m : ℕ) (rest : ℕ → Option Box) (w : World) → Stage e m rest w → Stage e (suc m) rest (onward w e m)
  stage-next e m rest w s = record {
    ahead = λ b h. up_to b m h (λ i. update w.box m (some (at e m)) i ≡ some (at e i)) (update_same w.box m (some (at e m)))
        (λ h'. update_other w.box m b (some (at e m)) (λ q. omega arith) ∙ s.ahead b h');
    behind = λ b h h'. update_other w.box m b (some (at e m)) (λ q. omega arith) ∙ s.behind b (omega arith) h';
    wrote = λ b h. up_to b m h (λ i. In (note_at e i) (note_at e m ∷ w.log)) here (λ h'. there (s.wrote b h'));
  }

  -- ---- openings
  open_after : (w : World) (b : ℕ) → b < n → after P O w (opening b (K.args b)) ≡ onward w 0 b
  unfolding ideal
  open_after w b h = rw (D.takes b (K.args b) h (K.given b h)).1 refl

  open-fair : (w : World) (b : ℕ) → b < n → w.box b ≡ none → Fair S w (opening b (K.args b))
  open-fair w b h e = (h, rw e tt, its_own (K.given b h))

  opened : (m : ℕ) → m ≤ n → FairList S start (open_all m) × Stage 0 m (λ b. none) (run P O start (open_all m))
  opened zero h = (tt, record { ahead = λ b h. absurd (omega arith); behind = λ b h h'. refl; wrote = λ b h. absurd (omega arith) })
  opened (suc m) h =
      let ih = opened m (omega arith) in
      let w : World = run P O start (open_all m) in (
        fair-append start (open_all m) _ ih.0 (open-fair w m h (ih.1.behind m (le_refl m) h), tt),
        rw (run-append start (open_all m) (opening m (K.args m) ∷ []), open_after w m h) (stage-next 0 m (λ b. none) w ih.1),
      )

  -- a log of which every note is of the run in step
  abbrev Clean : World → Type 0
  Clean w = All (NoteOk S D) w.log

  -- ---- rounds
  module _ (w : World) (d b : ℕ) (ld : d < C.steps) (lb : b < n) (sent : (j : ℕ) → j < n → In (note_at d j) w.log) where
    reads : Reads S w.log b d (C.number d) (lent_for d b)
    unfolding gone
    reads j lj ne = (rw (get_or-tab {A = ℕ} n j (λ j. 0) 0 lj) refl, ((on d).out j, sent j lj, part-for d b j lj))

    reason-none : reason_of P (session_at S b d) (C.number d) (lent_for d b) ((on d).work b) ≡ 0
    reason-none =
        no-reason P (session_at S b d) (C.number d) (lent_for d b) ((on d).work b) (C.live d b ld lb) refl
        (lengths-hold _ _ (frame n S.l b) (lent_for d b) ((on d).work b) long
        (length-replicate ((P.rule (C.number d)).out_len (frame n S.l b)) 0) (length-tab n _) (length-tab n _) (length-tab n _)
        (λ j lj. rw (start-at d b j lj, len-at d b j lj) (cat-inside n (pieces d b) j lj)))
        (K.valid b d lb ld)
      where
        long : length ((on d).work b) ≡ P.work_len (frame n S.l b)
        long = (D.rounds d ld).sized (on d) (holds S D d (omega arith)) b lb

    turn-fair : w.box b ≡ some (at d b) → Fair S w (turn b (C.number d) (lent_for d b))
    turn-fair e = (lb, rw e (λ z. (reads, K.agree b d lb ld)))

    turn-after : w.box b ≡ some (at d b) → Clean w → after P O w (turn b (C.number d) (lent_for d b)) ≡ onward w (suc d) b
    turn-after e c =
        ap (turned P w b (C.number d) (lent_for d b)) e
        ∙ rw (goes_on S D b (C.number d) d (lent_for d b) w.log B reads (K.agree b d lb ld) reason-none) refl
      where
        B : Before S D b d w.log
        B = record { box = lb; step = omega arith; notes = c }

  clean-onward : (w : World) (d b : ℕ) → d ≤ C.steps → Clean w → Clean (onward w d b)
  clean-onward w d b h c = (refl, c)

  -- all boxes stand at d
  pub record Level (d : ℕ) (w : World) : Type 0 where
    pub stand : (b : ℕ) → b < n → w.box b ≡ some (at d b)
    pub wrote : (b : ℕ) → b < n → In (note_at d b) w.log
    pub clean : Clean w

  taken : (w : World) (d : ℕ) → d < C.steps → Level d w → (m : ℕ) → m ≤ n
      → FairList S w (round_all d m) × Stage (suc d) m (λ b. some (at d b)) (run P O w (round_all d m))
      × Clean (run P O w (round_all d m)) × ((j : ℕ) → j < n → In (note_at d j) (run P O w (round_all d m)).log)
  taken w d ld v zero h = (
    tt,
    record { ahead = λ b h. absurd (omega arith); behind = λ b h h'. v.stand b h'; wrote = λ b h. absurd (omega arith) },
    v.clean,
    v.wrote,
  )
  taken w d ld v (suc m) h =
      let ih = taken w d ld v m (omega arith) in
      let u : World = run P O w (round_all d m) in
      let e : u.box m ≡ some (at d m) = ih.1.behind m (le_refl m) h in
      let a : after P O u (turn m (C.number d) (lent_for d m)) ≡ onward u (suc d) m = turn-after u d m ld h ih.3 e ih.2 in
      let r : run P O w (round_all d (suc m)) ≡ onward u (suc d) m =
      run-append w (round_all d m) (turn m (C.number d) (lent_for d m) ∷ []) ∙ a in (
        fair-append w (round_all d m) _ ih.0 (turn-fair u d m ld h ih.3 e, tt),
        rw r (stage-next (suc d) m (λ b. some (at d b)) u ih.1),
        rw r (clean-onward u (suc d) m ld ih.2),
        rw r (λ j lj. there (ih.3 j lj)),
      )

  clean-open : (m : ℕ) → m ≤ n → Clean (run P O start (open_all m))
  clean-open zero h = tt
  clean-open (suc m) h =
      let w : World = run P O start (open_all m) in
      let r : run P O start (open_all (suc m)) ≡ onward w 0 m =
      run-append start (open_all m) (opening m (K.args m) ∷ []) ∙ open_after w m h in
      subst Clean (sym r) (clean-onward w 0 m (omega arith) (clean-open m (omega arith)))

  level : (d : ℕ) → d ≤ C.steps → FairList S start (robin d) × Level d (run P O start (robin d))
  level zero h =
      let o = opened n (le_refl n) in
      (o.0, record { stand = λ b lb. o.1.ahead b lb; wrote = λ b lb. o.1.wrote b lb; clean = clean-open n (le_refl n) })
  level (suc d) h =
      let ih = level d (omega arith) in
      let t = taken (run P O start (robin d)) d h ih.1 n (le_refl n) in (
        fair-append start (robin d) (round_all d n) ih.0 t.0,
        rw (run-append start (robin d) (round_all d n)) (record {
          stand = λ b lb. t.1.ahead b lb;
          wrote = λ b lb. t.1.wrote b lb;
          clean = t.2;
        }),
      )

  -- the list in which all open and then take each round in turn is fair, and after it all boxes are done
  pub fair-robin : FairList S start (robin S.course.steps)
  fair-robin = (level C.steps (le_refl C.steps)).0

  pub robin-done : (b : ℕ) → b < S.n → (x : Box) × ((runs S (robin S.course.steps)).box b ≡ some x) × Done S.protocol x.session
  robin-done b lb =
      let e : (runs S (robin C.steps)).box b ≡ some (at C.steps b) = (level C.steps (le_refl C.steps)).1.stand b lb in
      (at C.steps b, e, (every-done S D (robin C.steps) fair-robin b (at C.steps b) e).1 refl)

  -- ---- what that list lends: every call what the cast says
  abbrev pub AsCast : Call Args → Type 0
  AsCast (opening b a) = Unit {0}
  AsCast (turn b k q) = q.loan ≡ K.lends b k

  all_append : (xs ys : List (Call Args)) → All AsCast xs → All AsCast ys → All AsCast (xs ++ ys)
  all_append [] ys f g = g
  all_append (x ∷ xs) ys f g = (f.0, all_append xs ys f.1 g)

  open-lends : (m : ℕ) → All AsCast (open_all m)
  open-lends zero = tt
  open-lends (suc m) = all_append (open_all m) _ (open-lends m) (tt, tt)

  round-lends : (d m : ℕ) → All AsCast (round_all d m)
  round-lends d zero = tt
  round-lends d (suc m) = all_append (round_all d m) _ (round-lends d m) (refl, tt)

  lends-to : (d : ℕ) → All AsCast (robin d)
  lends-to zero = open-lends n
  lends-to (suc d) = all_append (robin d) (round_all d n) (lends-to d) (round-lends d n)

  pub robin-lends : All AsCast (robin S.course.steps)
  robin-lends = lends-to C.steps

  -- and it has a call of each box for each round
  in_left : {c : Call Args} {xs : List (Call Args)} (ys : List (Call Args)) → In c xs → In c (xs ++ ys)
  in_left ys here = here
  in_left ys (there h) = there (in_left ys h)

  in_right : {c : Call Args} (xs : List (Call Args)) {ys : List (Call Args)} → In c ys → In c (xs ++ ys)
  in_right [] h = h
  in_right (x ∷ xs) h = there (in_right xs h)

  round-has : (d b m : ℕ) → b < m → In (turn b (C.number d) (lent_for d b)) (round_all d m)
  round-has d b zero h = absurd (omega arith)
  round-has d b (suc m) h =
      up_to b m h (λ i. In (turn i (C.number d) (lent_for d i)) (round_all d (suc m))) (in_right (round_all d m) here)
      (λ h'. in_left _ (round-has d b m h'))

  has-to : (d b e : ℕ) → b < n → d < e → In (turn b (C.number d) (lent_for d b)) (robin e)
  has-to d b zero lb h = absurd (omega arith)
  has-to d b (suc e) lb h =
      up_to d e h (λ i. In (turn b (C.number i) (lent_for i b)) (robin (suc e))) (in_right (robin e) (round-has e b n lb))
      (λ h'. in_left _ (has-to d b e lb h'))

  pub robin-has : (b d : ℕ) → b < S.n → d < S.course.steps
      → In (turn b (S.course.number d) (lent_for d b)) (robin S.course.steps)
  robin-has b d lb ld = has-to d b C.steps lb ld
