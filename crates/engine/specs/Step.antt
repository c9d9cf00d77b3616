-- A round call as a function of what it is given (document 01, "The call" and "Turned down by the session"). What the rounds are
-- stands in a Protocol; nothing here knows one.
use Rattle.std.specs.Prelude.{⊤, Result, Ok, Err, Bool, true, not, ◌&&◌, List, [], ℕ, zero, suc, ◌+◌, ◌-◌, ◌*◌, length, get_or, replicate, ltb, leb, eqb}
use Rattle.lists.specs.Pick.{pick}
use Rattle.lists.specs.All.{all_of}
use Rattle.lists.specs.Sect.{get}
use Rattle.algebra.specs.Sum.{neq}
use Rattle.batches.specs.Batches.{told, untold}
pub use Rattle.engine.specs.declared.Frame.{Frame}
pub use Rattle.engine.specs.declared.Session.{Session}
use Rattle.engine.specs.declared.Refusal.{Refusal}
use Rattle.refusals.specs.Reason.{number}

-- ---- what a call is given and leaves
-- "The r Blocks are lent with the call that writes `fabitn`"; "Hosts lend no permutation any more" (02, order 6)
pub record Loan : Type 0 where
  pub r : List ℕ

abbrev pub nothing : Loan
nothing = record { r = [] }

-- "one incoming buffer, a start and a length per party or a missing mark", and the outgoing buffer
pub record Lent : Type 0 where
  pub incoming : List ℕ
  pub starts : List ℕ
  pub lens : List ℕ
  pub missing : List ℕ
  pub loan : Loan
  pub out : List ℕ

-- What a call answers, as document 01 has it: accepted, or "the number and a party"
pub data Reply : Type 0 where
  Accepted : Reply
  Refused : ℕ → ℕ → Reply

-- "Where an answer is an enum, a definition gives this paper's number and values for each of the enum's cases."
unfoldable pub reply_of : Result ⊤ Refusal → Reply
reply_of (Ok _) = Accepted
reply_of (Err r) = Refused (number r.reason) r.party

-- session, answer, work area and outgoing buffer after the call; told: what it answers of the batches
pub record Outcome : Type 0 where
  pub session : Session
  pub reply : Reply
  pub told : List ℕ
  pub work : List ℕ
  pub out : List ℕ

abbrev pub leaves : Session → Reply → List ℕ → List ℕ → List ℕ → Outcome
leaves s v t w o = record { session = s; reply = v; told = t; work = w; out = o }

-- where nothing is told of them
abbrev pub outcome : Session → Reply → List ℕ → List ℕ → Outcome
outcome s v w o = leaves s v untold w o

-- box i of n, with l
abbrev pub frame : ℕ → ℕ → ℕ → Frame
frame n l i = record { n = n; i = i; l = l }

-- a received fault: "The answer carries the number and a party"; number 0 is no fault
pub record Fault : Type 0 where
  pub code : ℕ
  pub party : ℕ

abbrev pub none? : Fault
none? = record { code = 0; party = 0 }

-- ---- what the rounds are
-- One round. out_len: the length of the outgoing buffer; lent: 17 of the r Blocks, or 0, by n and l alone, so
-- that it is the same for every box; form: 13, 21 or 6 of one message, or 0; check: the content; keep: the work area afterwards; write: the
-- outgoing buffer. `m k` is party k's message, [] for the own one.
pub record Rule : Type 0 where
  pub out_len : Frame → ℕ
  pub lent : ℕ → ℕ → Loan → ℕ
  pub form : Frame → List ℕ → ℕ
  pub check : Frame → Loan → List ℕ → (ℕ → List ℕ) → Fault
  pub keep : Frame → Loan → List ℕ → (ℕ → List ℕ) → List ℕ
  pub write : Frame → Loan → List ℕ → (ℕ → List ℕ) → List ℕ

-- alive: the session is neither done nor ended, and of numbers that opening can have made; next n k: the round due after k, 0 after
-- the last; msg_len n l k: the length of a message of round k
pub record Protocol : Type 0 where
  pub alive : Session → Bool
  pub work_len : Frame → ℕ
  pub rule : ℕ → Rule
  pub next : ℕ → ℕ → ℕ
  pub msg_len : ℕ → ℕ → ℕ → ℕ

-- ---- the messages
-- another party than the own one
unfoldable pub other : Frame → ℕ → Bool
other f k = neq f.i k && ltb k f.n

-- "the own one is ignored"
unfoldable pub mask : Frame → (ℕ → List ℕ) → ℕ → List ℕ
mask f m k = pick (other f k) (m k) []

-- party k's message is marked missing: a byte of its own, 0 where the message is there
unfoldable pub gone : Lent → ℕ → Bool
gone q k = not (eqb (get_or q.missing k 0) 0)

-- the part of the incoming buffer that holds party k's message
unfoldable pub part : Lent → ℕ → List ℕ
part q k = get (get_or q.starts k 0) (get_or q.lens k 0) q.incoming

-- "The outgoing buffer holds just the messages that call writes, by party, own left out": the one for party i in what party j wrote, of
-- m bytes
unfoldable pub stretch : ℕ → ℕ → ℕ → List ℕ → List ℕ
stretch m j i o = get (m * pick (ltb i j) i (i - 1)) m o

-- ---- refusals that leave everything as it was: 20, 19, 17
-- "17 .. a message part outside it", where there is a message
unfoldable pub inside : Lent → ℕ → Bool
inside q k = leb (get_or q.starts k 0 + get_or q.lens k 0) (length q.incoming)

unfoldable pub parts_in : Frame → Lent → Bool
parts_in f q = all_of f.n (λ k. pick (other f k) (pick (gone q k) true (inside q k)) true)

-- "Lent lengths are exact, but for the incoming buffer"
unfoldable pub lengths_due : ℕ → ℕ → Frame → Lent → List ℕ → Bool
lengths_due work_len out_len f q w =
    eqb (length w) work_len && eqb (length q.out) out_len && eqb (length q.starts) f.n && eqb (length q.lens) f.n
    && eqb (length q.missing) f.n && parts_in f q

-- "Round call: 20, 19, 17, 18": the first that the call has, or 0; "18 no longer occurs" (02, order 6)
unfoldable pub reason_of : Protocol → Session → ℕ → Lent → List ℕ → ℕ
reason_of P s k q w =
    pick (not (P.alive s)) 20
    (pick (not (eqb k s.due)) 19
    (pick (not (lengths_due (P.work_len s.party) ((P.rule k).out_len s.party) s.party q w)) 17
    ((P.rule k).lent s.party.n s.party.l q.loan)))

-- ---- received faults: "then party by party 14, 13, 6, then content", and 21 "straight after 13 and before the count" (02, order 1)
unfoldable pub or_else : Fault → Fault → Fault
or_else a b = pick (eqb a.code 0) b a

-- the first party below n that has a fault
unfoldable pub scan : ℕ → (ℕ → ℕ) → Fault
scan zero c = none?
scan (suc n) c = or_else (scan n c) (record { code = c n; party = n })

-- the first other party that has a fault
unfoldable pub by_party : Frame → (ℕ → ℕ) → Fault
by_party f c = scan f.n (λ k. pick (other f k) (c k) 0)

-- 14, 13, 21 or 6 of party k
unfoldable pub form_fault : Rule → Frame → Lent → ℕ → ℕ
form_fault R f q k = pick (gone q k) 14 (R.form f (part q k))

unfoldable pub fault_of : Rule → Frame → Lent → List ℕ → Fault
fault_of R f q w = or_else (by_party f (form_fault R f q)) (R.check f q.loan w (mask f (part q)))

-- ---- the call
-- a session that is done or ended
abbrev pub ended : Session → Session
ended s = record { party = s.party; due = 0; counts = s.counts }

-- "all others leave both untouched", and write nothing
unfoldable pub refused : Session → ℕ → Lent → List ℕ → Outcome
refused s code q w = outcome s (Refused code s.party.i) w q.out

-- "Received faults .. end the session and zero the work area", and write nothing
unfoldable pub faulted : Session → Fault → Lent → List ℕ → Outcome
faulted s e q w = outcome (ended s) (Refused e.code e.party) (replicate (length w) 0) q.out

-- "Round 22 also answers, batch by batch" (02, order 7): the call after which no round is due
unfoldable pub told_after : ℕ → List ℕ → List ℕ
told_after due counts = pick (eqb due 0) (told counts) untold

unfoldable pub accepted : Protocol → Session → ℕ → Lent → List ℕ → Outcome
accepted P s k q w =
    leaves (record { party = s.party; due = P.next s.party.n k; counts = s.counts }) Accepted
    (told_after (P.next s.party.n k) s.counts)
    ((P.rule k).keep s.party q.loan w (mask s.party (part q)))
    ((P.rule k).write s.party q.loan w (mask s.party (part q)))

-- the round call for round k
unfoldable pub round_spec : Protocol → Session → ℕ → Lent → List ℕ → Outcome
round_spec P s k q w =
    pick (eqb (reason_of P s k q w) 0)
    (pick (eqb (fault_of (P.rule k) s.party q w).code 0)
    (accepted P s k q w)
    (faulted s (fault_of (P.rule k) s.party q w) q w))
    (refused s (reason_of P s k q w) q w)
