-- The rounds of document 01 have one shape, and a table of them gives the Protocol: the call for a round judges and keeps what was
-- received, and makes the messages of the next round. Where n > 2 and the next round is an echo, the call only notes the fault that it
-- found, and echoes; the call for the echo checks it, then reports that fault, and then makes the next messages. This is what the Rust
-- does between two receives.
use Rattle.std.specs.Prelude.{Bool, not, ◌&&◌, List, [], ◌∷◌, ℕ, zero, suc, ◌-◌, ◌*◌, length, get_or, replicate, ltb, eqb}
use Rattle.lists.specs.Pick.{pick}
use Rattle.lists.specs.Over.{cat}
use Rattle.batches.specs.Batches.{whole}
use Rattle.engine.specs.Step.{Frame, Loan, Fault, none?, Rule, Protocol, other, or_else, by_party}
use Rattle.engine.specs.Area.{off, sec, put_sec, to_others, mem}
use Rattle.engine.specs.Order.{Order, echo_in, round_in, next_in}

-- ---- what a round gives
-- What is done with its messages. form: 13, 21 or 6 of one message, or 0; judge: the content; faults: the numbers that the content check can
-- find; keep: the work area afterwards; digest: the 16 bytes of `hash_vec` of a message's list, for a round that has an echo
pub record Recv : Type 0 where
  pub form : Frame → List ℕ → ℕ
  pub judge : Frame → List ℕ → (ℕ → List ℕ) → Fault
  pub faults : List ℕ
  pub keep : Frame → List ℕ → (ℕ → List ℕ) → List ℕ
  pub digest : Frame → List ℕ → List ℕ

-- How its messages are made. len n l: the length of one; lent n l: 17 of what is lent, or 0, also for an echo and, as round 0, for
-- the results; keep: the work area afterwards; write f q w r: the message to r, from the work area after keep
pub record Send : Type 0 where
  pub len : ℕ → ℕ → ℕ
  pub lent : ℕ → ℕ → Loan → ℕ
  pub keep : Frame → Loan → List ℕ → List ℕ
  pub write : Frame → Loan → List ℕ → ℕ → List ℕ

-- The echo's messages: lists of n options of 16 bytes. rows: n rows of 16 bytes, row k the hash of k's list. form n m: 13, 21 or 6, or 0;
-- write n i rows r: what i sends to r; fault n i j rows m: 3 or 7 of the message m that j sent to i, or 0
pub record Echo : Type 0 where
  pub len : ℕ → ℕ
  pub form : ℕ → List ℕ → ℕ
  pub write : ℕ → ℕ → List ℕ → ℕ → List ℕ
  pub fault : ℕ → ℕ → ℕ → List ℕ → List ℕ → ℕ

-- ---- the table of the rounds
-- fine: n, i, l in opening's ranges; order: the last round, and those that are echoes; count, size: the sections of the work area. Two
-- more stand behind the `count` that the rounds use: section count, of 2 bytes, for a fault that waits for an echo, and section count + 1,
-- n rows of 16 bytes, for the hashes. result_len, result: what the last call writes
pub record Table : Type 0 where
  pub fine : Frame → Bool
  pub order : Order
  pub count : ℕ
  pub size : Frame → ℕ → ℕ
  pub recv : ℕ → Recv
  pub send : ℕ → Send
  pub echo : Echo
  pub result_len : Frame → ℕ
  pub result : Frame → List ℕ → (ℕ → List ℕ) → List ℕ

-- a row of 16 bytes for each party, zero for the own
unfoldable pub rows_of : Frame → (ℕ → List ℕ) → List ℕ
rows_of f h = cat f.n (λ k. pick (other f k) (h k) (replicate 16 0))

-- what waits for the echo: number and party of a fault, 0 0 for none
unfoldable pub waits : Fault → List ℕ
waits e = pick (eqb e.code 0) (0 ∷ 0 ∷ []) (e.code ∷ e.party ∷ [])

-- What two such bytes say to the echo's call, where the content check finds these numbers and there are n parties. Anything else is no
-- fault: no call leaves it there.
unfoldable pub waiting : List ℕ → ℕ → List ℕ → Fault
waiting numbers n x =
    pick (mem (get_or x 0 0) numbers && ltb (get_or x 1 0) n) (record { code = get_or x 0 0; party = get_or x 1 0 }) none?

-- the round before
abbrev pub prior : ℕ → ℕ
prior zero = zero
prior (suc k) = k

-- with a fault, what was received isn't kept
unfoldable pub if_clean : Fault → List ℕ → List ℕ → List ℕ
if_clean e w w' = pick (eqb e.code 0) w' w

module _ (T : Table) where
  -- ---- the order of the rounds; two: n = 2
  abbrev pub is_echo : ℕ → Bool
  is_echo k = echo_in T.order k

  abbrev pub next_of : Bool → ℕ → ℕ
  next_of two k = next_in T.order two k

  -- "Round 1 is due after opening": the round due after d accepted calls
  unfoldable pub number_of : Bool → ℕ → ℕ
  number_of two zero = 1
  number_of two (suc d) = next_of two (number_of two d)

  -- how many rounds there are: "For n = 2 the echoes are skipped"
  unfoldable pub steps_of : Bool → ℕ
  steps_of two = pick two (T.order.last - length T.order.echoes) T.order.last

  -- the call for round k writes an echo
  unfoldable pub to_echo : Bool → ℕ → Bool
  to_echo two k = not two && is_echo (suc k)

  -- ---- lengths, and what is lent
  -- a message of round k
  unfoldable pub len_of : ℕ → ℕ → ℕ → ℕ
  len_of n l k = pick (is_echo k) (T.echo.len n) ((T.send k).len n l)

  -- "The outgoing buffer holds just the messages that call writes .. or the results"
  unfoldable pub out_len_of : ℕ → Frame → ℕ
  out_len_of k f = pick (eqb k T.order.last) (T.result_len f) ((f.n - 1) * len_of f.n f.l (next_of (eqb f.n 2) k))

  -- what the call for round k is lent, as the messages that it makes ask for
  unfoldable pub lent_of : ℕ → ℕ → ℕ → Loan → ℕ
  lent_of k n l q = (T.send (next_of (eqb n 2) k)).lent n l q

  -- 13, 21 or 6 of a message of round k
  unfoldable pub form_at : ℕ → Frame → List ℕ → ℕ
  form_at k f m = pick (is_echo k) (T.echo.form f.n m) ((T.recv k).form f m)

  -- ---- the sections of the echoes
  -- the fault of the round before that waits for echo k
  unfoldable pub pending : ℕ → Frame → List ℕ → Fault
  pending k f w = waiting (T.recv (prior k)).faults f.n (sec (T.size f) T.count w)

  -- the hashes of the lists that the echo is about
  unfoldable pub hashes : Frame → List ℕ → List ℕ
  hashes f w = sec (T.size f) (suc T.count) w

  -- the hashes of what was received for round k
  unfoldable pub digests : ℕ → Frame → (ℕ → List ℕ) → List ℕ
  digests k f m = rows_of f (λ j. (T.recv k).digest f (m j))

  -- ---- the content
  -- "From each sender the entries .. are checked", then what waited for the echo
  unfoldable pub echo_check : ℕ → Frame → List ℕ → (ℕ → List ℕ) → Fault
  echo_check k f w m = or_else (by_party f (λ j. T.echo.fault f.n f.i j (hashes f w) (m j))) (pending k f w)

  -- a call that writes an echo has no fault by content: its echo's call reports it
  unfoldable pub check_of : ℕ → Frame → List ℕ → (ℕ → List ℕ) → Fault
  check_of k f w m = pick (is_echo k) (echo_check k f w m) (pick (to_echo (eqb f.n 2) k) none? ((T.recv k).judge f w m))

  -- ---- the work area
  -- after a call that writes an echo
  unfoldable pub for_echo : ℕ → Frame → List ℕ → (ℕ → List ℕ) → List ℕ
  for_echo k f w m =
      let e : Fault = (T.recv k).judge f w m in
      put_sec (T.size f) T.count (waits e)
      (put_sec (T.size f) (suc T.count) (digests k f m)
      (if_clean e w ((T.recv k).keep f w m)))

  -- after a call that makes the messages of the next plain round
  unfoldable pub made : ℕ → Frame → Loan → List ℕ → (ℕ → List ℕ) → List ℕ
  made k f q w m = (T.send (next_of (eqb f.n 2) k)).keep f q (pick (is_echo k) w ((T.recv k).keep f w m))

  -- "The last call writes the l result records to the outgoing buffer and zeroes the work area"
  unfoldable pub keep_of : ℕ → Frame → Loan → List ℕ → (ℕ → List ℕ) → List ℕ
  keep_of k f q w m = pick (eqb k T.order.last) (replicate (length w) 0) (pick (to_echo (eqb f.n 2) k) (for_echo k f w m) (made k f q w m))

  -- the results, an echo, or the messages of the next plain round
  unfoldable pub write_of : ℕ → Frame → Loan → List ℕ → (ℕ → List ℕ) → List ℕ
  write_of k f q w m =
      pick (eqb k T.order.last) (T.result f w m)
      (to_others f.n f.i
      (pick (to_echo (eqb f.n 2) k) (T.echo.write f.n f.i (digests k f m))
      ((T.send (next_of (eqb f.n 2) k)).write f q (made k f q w m))))

  -- ---- the protocol
  -- the call for round k
  abbrev pub rule_of : ℕ → Rule
  rule_of k = record {
    out_len = out_len_of k;
    lent = lent_of k;
    form = form_at k;
    check = λ f q w m. check_of k f w m;
    keep = keep_of k;
    write = write_of k;
  }

  -- "19 a call for another round than the one due. 20 the session is done or ended"; a session that opening can't have made counts as ended
  abbrev pub protocol_of : Protocol
  protocol_of = record {
    alive = λ s. T.fine s.party && whole s.party.l s.counts && round_in T.order (eqb s.party.n 2) s.due;
    work_len = λ f. off (T.size f) (suc (suc T.count));
    rule = rule_of;
    next = λ n k. next_of (eqb n 2) k;
    msg_len = len_of;
  }
