-- n boxes and a list of calls (document 01, "What demand 3 speaks of"): who holds what, what was written, which calls a list may hold, and
-- what is claimed of each.
use Rattle.std.specs.Prelude.{◌≡◌, true, false, cond, ◌≢◌, List, [], ◌∷◌, ℕ, suc, ◌<◌}
use Rattle.std.proofs.Math.Option.{Option, some, none}
use Rattle.algebra.specs.Sum.{neq}
use Rattle.engine.specs.Step.{frame, Session, Loan, Lent, Reply, Accepted, Refused, Outcome, outcome, Protocol, gone, part}
use Rattle.engine.specs.Step.{stretch, reason_of, round_spec}

-- ---- lists and tables
pub data In {A : Type 0} (a : A) : List A → Type 0 where
  here : {l : List A} → In a (a ∷ l)
  there : {b : A} {l : List A} → In a l → In a (b ∷ l)

-- every member of a list has a property
abbrev pub All : {A : Type 0} → (A → Type 0) → List A → Type 0
All P [] = Unit {0}
All P (a ∷ l) = P a × All P l

-- the table f with a in place i
abbrev pub update : {A : Type 0} → (ℕ → A) → ℕ → A → ℕ → A
update f i a j = cond (neq i j) (f j) a

-- ---- boxes
-- opening, as a function of all that it is given; reason: the first of 01's order, 0 for none; party: the one that its refusal names;
-- work, out: what it is lent
pub record Opening (Args : Type 0) : Type 0 where
  pub spec : Args → Outcome
  pub reason : Args → ℕ
  pub party : Args → ℕ
  pub work : Args → List ℕ
  pub out : Args → List ℕ

-- "session and work area as that box's last call left them"; how many of its round calls were accepted, and what the last accepted
-- call wrote
pub record Box : Type 0 where
  pub session : Session
  pub work : List ℕ
  pub rounds : ℕ
  pub wrote : List ℕ

-- an accepted call: its box, how many round calls of that box were accepted with it (0: opening), and the outgoing buffer it wrote
pub record Note : Type 0 where
  pub sender : ℕ
  pub step : ℕ
  pub out : List ℕ

abbrev pub note : ℕ → ℕ → List ℕ → Note
note j d o = record { sender = j; step = d; out = o }

pub record World : Type 0 where
  pub box : ℕ → Option Box
  pub log : List Note

-- "At the start no box has a session"
abbrev pub start : World
start = record { box = λ b. none; log = [] }

-- ---- calls
pub data Call (Args : Type 0) : Type 0 where
  opening : ℕ → Args → Call Args
  turn : ℕ → ℕ → Lent → Call Args

abbrev pub logged : List Note → ℕ → ℕ → Outcome → Reply → List Note
logged log b d r Accepted = note b d r.out ∷ log
logged log b d r (Refused c p) = log

-- "refused, there is no session"
abbrev pub opened_box : Option Box → Outcome → Reply → Option Box
opened_box o r Accepted = some (record { session = r.session; work = r.work; rounds = 0; wrote = r.out })
opened_box o r (Refused c p) = o

abbrev pub turned_box : Box → Outcome → Reply → Box
turned_box x r Accepted = record { session = r.session; work = r.work; rounds = suc x.rounds; wrote = r.out }
turned_box x r (Refused c p) = record { session = r.session; work = r.work; rounds = x.rounds; wrote = x.wrote }

-- a round call of a box that has no session does nothing; a fair list has none
abbrev pub turned : Protocol → World → ℕ → ℕ → Lent → Option Box → World
turned P w b k q none = w
turned P w b k q (some x) =
    let r : Outcome = round_spec P x.session k q x.work in
    record {
      box = update w.box b (some (turned_box x r r.reply));
      log = logged w.log b (suc x.rounds) r r.reply;
    }

module _ {Args : Type 0} (P : Protocol) (O : Opening Args) where
  abbrev pub after : World → Call Args → World
  after w (opening b a) =
      let r : Outcome = O.spec a in
      record { box = update w.box b (opened_box (w.box b) r r.reply); log = logged w.log b 0 r r.reply }
  after w (turn b k q) = turned P w b k q (w.box b)

  abbrev pub run : World → List (Call Args) → World
  run w [] = w
  run w (c ∷ cs) = run (after w c) cs

-- "A box is done when its session answers 20 to whatever round call comes next"
abbrev pub Done : Protocol → Session → Type 0
Done P s = (k : ℕ) (q : Lent) (w : List ℕ) → (round_spec P s k q w).reply ≡ Refused 20 s.party.i

-- ---- the order of the rounds
-- the session of box b of n, opened with these counts, whose sum is l, when round k is due
abbrev pub session_of : ℕ → ℕ → List ℕ → ℕ → ℕ → Session
session_of n l counts b k = record { party = frame n l b; due = k; counts = counts }

-- "Round 1 is due after opening; each accepted call makes the next in order due": number d is due after d accepted calls, for d below
-- steps; after steps calls the session is over. counts b: what box b keeps of its own list
pub record Course (P : Protocol) (n l : ℕ) (counts : ℕ → List ℕ) : Type 0 where
  pub steps : ℕ
  pub number : ℕ → ℕ
  pub next-is : (d : ℕ) → d < steps → P.next n (number d) ≡ number (suc d)
  pub live : (d b : ℕ) → d < steps → b < n → P.alive (session_of n l (counts b) b (number d)) ≡ true
  pub over : (b : ℕ) → P.alive (session_of n l (counts b) b (number steps)) ≡ false

-- what a claim on lists of calls is about: n boxes with one l. counts b: what box b keeps of its own list, whose sum is l; Agrees k: "its r
-- Blocks .., where due, equal the other boxes'", of a call for round k; Given b: "one opening with the inputs of demand 3", for box b
pub record Scene (Args : Type 0) : Type 1 where
  pub protocol : Protocol
  pub opens : Opening Args
  pub n : ℕ
  pub l : ℕ
  pub counts : ℕ → List ℕ
  pub course : Course protocol n l counts
  pub Agrees : ℕ → Loan → Type 0
  pub Given : ℕ → Args → Type 0

-- ---- which calls a list may hold
module _ {Args : Type 0} (S : Scene Args) where
  -- the session of box b after d accepted round calls
  abbrev pub session_at : ℕ → ℕ → Session
  session_at b d = session_of S.n S.l (S.counts b) b (S.course.number d)

  -- "refused with 20 once round 22 was accepted, else with 19 if its round isn't due, else with 17 or 18 where it has that reason": by the
  -- count of accepted calls
  abbrev pub reason_after : ℕ → Box → ℕ → Lent → ℕ
  reason_after b x k q = reason_of S.protocol (session_at b x.rounds) k q x.work

  -- "from each other box, a copy in full length of the bytes that an earlier call of the list wrote to it for that round", the one due
  -- after d accepted calls
  abbrev pub Reads : List Note → ℕ → ℕ → ℕ → Lent → Type 0
  Reads log b d k q = (j : ℕ) → j < S.n → b ≢ j → (gone q j ≡ false)
      × ((o : List ℕ) × In (note j d o) log × (part q j ≡ stretch (S.protocol.msg_len S.n S.l k) j b o))

  -- "after it round calls"; one without a reason reads what was written for it
  abbrev pub FairTurn : List Note → ℕ → ℕ → Lent → Option Box → Type 0
  FairTurn log b k q none = ⊥
  FairTurn log b k q (some x) = reason_after b x k q ≡ 0 → Reads log b x.rounds k q × S.Agrees k q.loan

  -- "one opening with the inputs of demand 3, before it any openings that have a reason to be refused"
  pub data FairOpening (b : ℕ) (a : Args) : Type 0 where
    has-reason : S.opens.reason a ≢ 0 → FairOpening b a
    its_own : S.Given b a → FairOpening b a

  abbrev pub Unopened : Option Box → Type 0
  Unopened none = Unit {0}
  Unopened (some x) = ⊥

  abbrev pub Fair : World → Call Args → Type 0
  Fair w (opening b a) = (b < S.n) × Unopened (w.box b) × FairOpening b a
  Fair w (turn b k q) = (b < S.n) × FairTurn w.log b k q (w.box b)

  -- a list of any length: each call is fair after those before it
  abbrev pub FairList : World → List (Call Args) → Type 0
  FairList w [] = Unit {0}
  FairList w (c ∷ cs) = Fair w c × FairList (after S.protocol S.opens w c) cs

-- ---- what is claimed of each call
-- a call that has a reason is refused with it and changes nothing; any other is accepted
pub data Answered (reason party : ℕ) (s : Session) (w o : List ℕ) (r : Outcome) : Type 0 where
  refused-it : reason ≢ 0 → r ≡ outcome s (Refused reason party) w o → Answered reason party s w o r
  accepted-it : reason ≡ 0 → r.reply ≡ Accepted → Answered reason party s w o r

module _ {Args : Type 0} (S : Scene Args) where
  abbrev pub RightTurn : ℕ → ℕ → Lent → Option Box → Type 0
  RightTurn b k q none = ⊥
  RightTurn b k q (some x) =
      Answered (reason_after S b x k q) b x.session x.work q.out (round_spec S.protocol x.session k q x.work)

  abbrev pub Right : World → Call Args → Type 0
  Right w (opening b a) =
      let O : Opening Args = S.opens in
      Answered (O.reason a) (O.party a) (O.spec a).session (O.work a) (O.out a) (O.spec a)
  Right w (turn b k q) = RightTurn b k q (w.box b)

  abbrev pub AllRight : World → List (Call Args) → Type 0
  AllRight w [] = Unit {0}
  AllRight w (c ∷ cs) = Right w c × AllRight (after S.protocol S.opens w c) cs

  -- after the list
  abbrev pub runs : List (Call Args) → World
  runs cs = run S.protocol S.opens start cs
