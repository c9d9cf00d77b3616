-- In every list of calls each box follows the run in step, and a call is refused exactly where it has a reason.
use Rattle.std.specs.Prelude.{◌≡◌, Bool, true, false, cond, ◌≢◌, List, [], ◌∷◌, length, ltb}
use Rattle.std.proofs.Math.Path.{refl, subst}
use Rattle.std.proofs.Common.{sym, ap, ap₂, ◌∙◌, le_refl, arith, ltb-true, ltb-false}
use Rattle.std.proofs.Math.Option.{Option, some, none}
use Prim.Native.Nat.{ℕ, zero, suc, ◌<◌, ◌≤◌}
use Rattle.lists.specs.All.{true-false}
use Rattle.algebra.specs.Sum.{neq, apart?, Same, same}
use Rattle.engine.specs.Step.{Frame, frame, Session, nothing, Lent, Reply, Accepted, Refused, Outcome, leaves, outcome}
use Rattle.engine.specs.Step.{Protocol, told_after, mask, part}
use Rattle.engine.specs.Step.{stretch, reason_of, fault_of, accepted, round_spec}
use Rattle.engine.specs.StepLaws.{mask-ext, no-fault}
use Rattle.engine.proofs.RoundLaws.{round-cases, due_of_lem, over-20, other-19, round-accepts}
use Rattle.engine.specs.World.{In, here, there, All, update, Box, Note, World, Call, opening, turn, start, logged, opened_box}
use Rattle.engine.specs.World.{turned_box, turned, after, run, Course, Scene, session_at, reason_after, Reads, FairTurn, FairOpening}
use Rattle.engine.specs.World.{has-reason, its_own, Fair, FairList, Answered, refused-it, accepted-it, RightTurn, Right, AllRight}
use Rattle.engine.specs.World.{Done, runs}
use Rattle.engine.specs.Engine.{Joint, mail_of, together, Alike, Duty}

all_in : {A : Type 0} (Q : A → Type 0) {a : A} {l : List A} → All Q l → In a l → Q a
all_in Q h here = h.0
all_in Q h (there m) = all_in Q h.1 m

update_all : {A : Type 0} (Q : ℕ → A → Type 0) (f : ℕ → A) (i : ℕ) (o : A) → ((j : ℕ) → Q j (f j)) → Q i o → (j : ℕ) → Q j (update f i o j)
update_all Q f i o h k j = go (neq i j) (apart? i j)
  where
    go : (b : Bool) → Same i j b → Q j (cond b (f j) o)
    go true s = h j
    go false (same e) = subst (λ (q : ℕ). Q q o) e k

module _ {Args : Type 0} (S : Scene Args) (D : Duty S) where
  abbrev P : Protocol
  P = S.protocol

  abbrev C : Course S.protocol S.n S.l S.counts
  C = S.course

  abbrev fr : ℕ → Frame
  fr b = frame S.n S.l b

  -- the run in step
  unfoldable pub ideal : ℕ → Joint
  ideal zero = D.first
  ideal (suc d) = together S.protocol S.n S.l D.loans (S.course.number d) (ideal d)

  pub holds : (d : ℕ) → d ≤ S.course.steps → D.Holds (S.course.number d) (ideal d)
  unfolding ideal
  holds zero h = D.base
  holds (suc d) h =
      subst (λ k. D.Holds k (together P S.n S.l D.loans (C.number d) (ideal d))) (C.next-is d h)
      ((D.rounds d h).goes (ideal d) (holds d (omega arith)))

  -- box b has accepted x .rounds rounds of the run in step
  pub record Follows (b : ℕ) (x : Box) : Type 0 where
    pub bound : x.rounds ≤ S.course.steps
    pub session : x.session ≡ session_at S b x.rounds
    pub work : x.work ≡ (ideal x.rounds).work b
    pub wrote : x.wrote ≡ (ideal x.rounds).out b

  abbrev pub BoxOk : ℕ → Option Box → Type 0
  BoxOk b none = Unit {0}
  BoxOk b (some x) = (b < S.n) × Follows b x

  abbrev pub NoteOk : Note → Type 0
  NoteOk e = e.out ≡ (ideal e.step).out e.sender

  pub record Inv (w : World) : Type 0 where
    pub boxes : (b : ℕ) → BoxOk b (w.box b)
    pub notes : All NoteOk w.log

  -- ---- a round call of a box that follows
  -- box b after d accepted rounds of the run in step
  abbrev pub box_at : ℕ → ℕ → Box
  box_at d b = record { session = session_at S b d; work = (ideal d).work b; rounds = d; wrote = (ideal d).out b }

  -- what is known before a round call of box b, after d accepted ones
  pub record Before (b d : ℕ) (log : List Note) : Type 0 where
    pub box : b < S.n
    pub step : d ≤ S.course.steps
    pub notes : All NoteOk log

  module _ (b k d : ℕ) (q : Lent) (log : List Note) (B : Before b d log) where
    abbrev s : Session
    s = session_at S b d

    abbrev wk : List ℕ
    wk = (ideal d).work b

    abbrev Z : Type 0
    Z = reason_of P s k q wk ≡ 0

    due-is : Z → k ≡ C.number d
    due-is z = (due_of_lem P s k q wk z).number

    not-over : Z → d < C.steps
    not-over z = go (ltb d C.steps) refl
      where
        go : (t : Bool) → ltb d C.steps ≡ t → d < C.steps
        go true e = ltb-true _ _ e
        go false e =
            let eq : d ≡ C.steps = omega (arith, B.step, ltb-false d C.steps e) in
            absurd (true-false (sym (due_of_lem P s k q wk z).alive ∙ ap (λ m. P.alive (session_at S b m)) eq ∙ C.over b))

    module _ (fair : Z → Reads S log b d k q × S.Agrees k q.loan) where
      part-is : Z → (j : ℕ) → j < S.n → b ≢ j → part q j ≡ stretch (P.msg_len S.n S.l (C.number d)) j b ((ideal d).out j)
      part-is z j lj ne =
          let c = ((fair z).0 j lj ne).1 in
          let o : c.0 ≡ (ideal d).out j = all_in NoteOk B.notes c.1 in
          c.2 ∙ ap₂ (λ m x. stretch (P.msg_len S.n S.l m) j b x) (due-is z) o

      mail-is : Z → mask (fr b) (part q) ≡ mail_of P S.n S.l D.loans (C.number d) (ideal d) b
      unfolding mail_of
      mail-is z = mask-ext (fr b) (part q) _ (part-is z)

      alike : Z → Alike (P.rule k) S.n S.l q.loan (D.loans k)
      alike z = D.agreed k q.loan (due_of_lem P s k q wk z).lent (fair z).1

      no-fault-here : Z → (fault_of (P.rule k) s.party q wk).code ≡ 0
      no-fault-here z =
          let R = D.rounds d (not-over z) in
          let h : D.Holds (C.number d) (ideal d) = holds d B.step in
          no-fault (P.rule k) (fr b) q wk
          (λ j lj ne. (((fair z).0 j lj ne).0, rw (part-is z j lj ne, due-is z) (R.formed (ideal d) h b j B.box lj ne)))
          (rw (mail-is z, (alike z).check, due-is z) (R.passes (ideal d) h b B.box))

      accepted-is : Z → accepted P s k q wk
          ≡ leaves (session_at S b (suc d)) Accepted (told_after (C.number (suc d)) (S.counts b)) ((ideal (suc d)).work b) ((ideal (suc d)).out b)
      unfolding accepted ideal together
      accepted-is z = rw (mail-is z, (alike z).keep, (alike z).write, due-is z, C.next-is d (not-over z)) refl

  -- a fair call with no reason goes on
  pub goes_on : (b k d : ℕ) (q : Lent) (log : List Note) → Before b d log → Reads S log b d k q → S.Agrees k q.loan
      → reason_of S.protocol (session_at S b d) k q ((ideal d).work b) ≡ 0
      → round_spec S.protocol (session_at S b d) k q ((ideal d).work b)
      ≡ leaves (session_at S b (suc d)) Accepted (told_after (S.course.number (suc d)) (S.counts b)) ((ideal (suc d)).work b)
      ((ideal (suc d)).out b)
  goes_on b k d q log B reads e z =
      round-accepts P (session_at S b d) k q ((ideal d).work b) z (no-fault-here b k d q log B (λ y. (reads, e)) z)
      ∙ accepted-is b k d q log B (λ y. (reads, e)) z

  -- what a round call of box x comes to, with outcome r
  record Took (b k : ℕ) (q : Lent) (log : List Note) (x : Box) (r : Outcome) : Type 0 where
    answered : Answered (reason_after S b x k q) b x.session x.work q.out r
    follows : Follows b (turned_box x r r.reply)
    notes : All NoteOk (logged log b (suc x.rounds) r r.reply)

  follows-at : (d b : ℕ) → d ≤ C.steps → Follows b (box_at d b)
  follows-at d b h = record { bound = h; session = refl; work = refl; wrote = refl }

  took-ideal : (b k d : ℕ) (q : Lent) (log : List Note) → Before b d log
      → (reason_after S b (box_at d b) k q ≡ 0 → Reads S log b d k q × S.Agrees k q.loan)
      → Took b k q log (box_at d b) (round_spec P (session_at S b d) k q ((ideal d).work b))
  took-ideal b k d q log B fair =
      round-cases P (session_at S b d) k q ((ideal d).work b) (Took b k q log (box_at d b))
      (λ ne. record { answered = refused-it ne refl; follows = follows-at d b B.step; notes = B.notes })
      (λ z ne. absurd (ne (no-fault-here b k d q log B fair z)))
      (λ z f. subst (Took b k q log (box_at d b)) (sym (accepted-is b k d q log B fair z)) (record {
        answered = accepted-it z refl;
        follows = follows-at (suc d) b (not-over b k d q log B z);
        notes = (refl, B.notes);
      }))

  took : (b k : ℕ) (q : Lent) (log : List Note) (x : Box) → b < S.n → Follows b x → All NoteOk log → FairTurn S log b k q (some x)
      → Took b k q log x (round_spec P x.session k q x.work)
  took b k q log x lb f notes fair =
      let B : Before b x.rounds log = record { box = lb; step = f.bound; notes = notes } in
      let t = took-ideal b k x.rounds q log B (λ z. fair (rw f.work z)) in
      subst (λ (y : Box). Took b k q log y (round_spec P y.session k q y.work)) (sym (box-is x f)) t
    where
      box-is : (x : Box) → Follows b x → x ≡ box_at x.rounds b
      box-is x f =
          let d : ℕ = x.rounds in
          ap₂ (λ s u. record { session = s; work = u; rounds = d; wrote = x.wrote }) f.session f.work
          ∙ ap (λ o. record { session = session_at S b d; work = (ideal d).work b; rounds = d; wrote = o }) f.wrote

  -- ---- any call
  turn-ok : (w : World) (b k : ℕ) (q : Lent) (o : Option Box) → Inv w → b < S.n → BoxOk b o → FairTurn S w.log b k q o
      → RightTurn S b k q o × Inv (turned P w b k q o)
  turn-ok w b k q none h lb ok fair = absurd fair
  turn-ok w b k q (some x) h lb ok fair =
      let r : Outcome = round_spec P x.session k q x.work in
      let t = took b k q w.log x lb ok.1 h.notes fair in (
        t.answered,
        record {
          boxes = update_all BoxOk w.box b (some (turned_box x r r.reply)) h.boxes (lb, t.follows);
          notes = t.notes;
        },
      )

  abbrev Opened : World → ℕ → Args → Outcome → Type 0
  Opened w b a r =
      Answered (S.opens.reason a) (S.opens.party a) r.session (S.opens.work a) (S.opens.out a) r
      × Inv (record { box = update w.box b (opened_box (w.box b) r r.reply); log = logged w.log b 0 r r.reply })

  opening-ok : (w : World) (b : ℕ) (a : Args) → Inv w → b < S.n → FairOpening S b a → Opened w b a (S.opens.spec a)
  unfolding ideal
  opening-ok w b a h lb (has-reason ne) =
      let same : Inv (record { box = update w.box b (w.box b); log = w.log }) =
      record { boxes = update_all BoxOk w.box b (w.box b) h.boxes (h.boxes b); notes = h.notes } in
      rw (D.refuses a ne) (refused-it ne refl, same)
  opening-ok w b a h lb (its_own g) =
      subst (Opened w b a) (sym (D.takes b a lb g).1) (
        accepted-it (D.takes b a lb g).0 refl,
        record {
          boxes = update_all BoxOk w.box b (some (box_at 0 b)) h.boxes (lb, first);
          notes = (refl, h.notes);
        },
      )
    where
      first : Follows b (box_at 0 b)
      first = follows-at 0 b (omega arith)

  call_ok : (w : World) (c : Call Args) → Inv w → Fair S w c → Right S w c × Inv (after P S.opens w c)
  call_ok w (opening b a) h fair = opening-ok w b a h fair.0 fair.2
  call_ok w (turn b k q) h fair = turn-ok w b k q (w.box b) h fair.0 (h.boxes b) fair.1

  list-ok : (cs : List (Call Args)) (w : World) → Inv w → FairList S w cs → AllRight S w cs × Inv (run P S.opens w cs)
  list-ok [] w h fair = (tt, h)
  list-ok (c ∷ cs) w h fair =
      let r = call_ok w c h fair.0 in
      let t = list-ok cs (after P S.opens w c) r.1 fair.1 in
      ((r.0, t.0), t.1)

  -- ---- THE ENGINE: in every fair list exactly the calls with a reason are refused, and change nothing
  pub every_call : (cs : List (Call Args)) → FairList S start cs → AllRight S start cs
  every_call cs fair = (list-ok cs start (record { boxes = λ b. tt; notes = tt }) fair).0

  box-ok : (cs : List (Call Args)) → FairList S start cs → (b : ℕ) (x : Box) → (runs S cs).box b ≡ some x → (b < S.n) × Follows b x
  box-ok cs fair b x e = subst (BoxOk b) e ((list-ok cs start (record { boxes = λ b. tt; notes = tt }) fair).1.boxes b)

  -- done exactly when all rounds were accepted
  done_all : (b : ℕ) (x : Box) → Follows b x → x.rounds ≡ C.steps → Done P x.session
  done_all b x f e k q w = rw (f.session, e) (ap (λ (r : Outcome). r.reply) (over-20 P (session_at S b C.steps) k q w (C.over b)))

  all_done : (b : ℕ) (x : Box) → b < S.n → Follows b x → Done P x.session → x.rounds ≡ C.steps
  all_done b x lb f done = go (ltb x.rounds C.steps) refl
    where
      empty : Lent
      empty = record { incoming = []; starts = []; lens = []; missing = []; loan = nothing; out = [] }

      code : Reply → ℕ
      code Accepted = 0
      code (Refused c p) = c

      wrong : Session → ℕ
      wrong s = suc s.due

      answers : x.rounds < C.steps
          → round_spec P x.session (wrong x.session) empty [] ≡ outcome x.session (Refused 19 x.session.party.i) [] []
      answers h = other-19 P x.session (wrong x.session) empty [] (rw f.session (C.live x.rounds b h lb)) (λ e. omega arith)

      go : (t : Bool) → ltb x.rounds C.steps ≡ t → x.rounds ≡ C.steps
      go false e = omega (arith, f.bound, ltb-false x.rounds C.steps e)
      go true e =
          let a : (round_spec P x.session (wrong x.session) empty []).reply ≡ Refused 19 x.session.party.i =
          ap (λ (r : Outcome). r.reply) (answers (ltb-true _ _ e)) in
          let c : ◌≡◌ {A = ℕ} 19 20 = ap code (sym a ∙ done (wrong x.session) empty []) in
          absurd (omega arith)

  pub every-done : (cs : List (Call Args)) → FairList S start cs → (b : ℕ) (x : Box) → (runs S cs).box b ≡ some x
      → (Done S.protocol x.session → x.rounds ≡ S.course.steps) × (x.rounds ≡ S.course.steps → Done S.protocol x.session)
  every-done cs fair b x e = let f = box-ok cs fair b x e in (all_done b x f.0 f.1, done_all b x f.1)

  -- what a done box wrote last is what the run in step ends with, where what holds at the end holds
  pub every-result : (cs : List (Call Args)) → FairList S start cs → (b : ℕ) (x : Box) → (runs S cs).box b ≡ some x
      → Done S.protocol x.session → (b < S.n) × (x.wrote ≡ (ideal S.course.steps).out b)
      × D.Holds (S.course.number S.course.steps) (ideal S.course.steps)
  every-result cs fair b x e done =
      let f = box-ok cs fair b x e in
      let r : x.rounds ≡ C.steps = all_done b x f.0 f.1 done in
      (f.0, f.1.wrote ∙ ap (λ d. (ideal d).out b) r, holds C.steps (le_refl C.steps))

  -- the work area of a box that is not done is as long as it should: a 17 comes from what the call itself is lent
  pub every-long : (cs : List (Call Args)) → FairList S start cs → (b : ℕ) (x : Box) → (runs S cs).box b ≡ some x
      → x.rounds < S.course.steps → length x.work ≡ S.protocol.work_len (frame S.n S.l b)
  every-long cs fair b x e h =
      let f = box-ok cs fair b x e in
      ap length f.1.work ∙ (D.rounds x.rounds h).sized (ideal x.rounds) (holds x.rounds f.1.bound) b f.0
