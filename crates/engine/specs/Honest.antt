-- What each round of a table owes so that demand 3 holds of a session of them, and what then holds when each is due.
use Rattle.std.specs.Prelude.{◌≡◌, Bool, true, not, ◌&&◌, ◌≢◌, List, [], ◌∷◌, ℕ, suc, ◌+◌, ◌*◌, ◌<◌, length, ltb, eqb}
use Rattle.lists.specs.Pick.{pick}
use Rattle.lists.specs.Rows.{chunk}
use Rattle.lists.specs.All.{all_of}
use Rattle.engine.specs.Step.{Frame, frame, Loan}
use Rattle.engine.specs.Area.{mem, Every}
use Rattle.engine.specs.Sheet.{Store, Known, Sheet, Mail}
use Rattle.engine.specs.Order.{round_in}
use Rattle.engine.specs.Plain.{Recv, Send, Echo, Table, rows_of, prior, is_echo, next_of, number_of, steps_of}

-- ---- what the echo's messages owe
-- an honest echo is as long as it should be, is formed, and has no fault
pub record EchoLaws (E : Echo) (n : ℕ) : Type 0 where
  pub lens : (i r : ℕ) → i < n → r < n → i ≢ r → (rows : List ℕ) → length rows ≡ n * 16 → length (E.write n i rows r) ≡ E.len n
  pub formed : (i r : ℕ) → i < n → r < n → i ≢ r → (rows : List ℕ) → length rows ≡ n * 16 → E.form n (E.write n i rows r) ≡ 0
  pub passes : (i j : ℕ) → i < n → j < n → i ≢ j → (own sent : List ℕ) → length own ≡ n * 16 → length sent ≡ n * 16
      → ((k : ℕ) → k < n → i ≢ k → j ≢ k → chunk 16 k own ≡ chunk 16 k sent) → E.fault n i j own (E.write n j sent i) ≡ 0

-- ---- WHAT A ROUND OWES, on a store of what the sections hold: a round's facts name no table
module _ (n l : ℕ) (C : Store) where
  -- a claim on every box that receives, at moment t, with a work area as the store says, messages that are as sent says
  abbrev pub Gets : (ℕ → ℕ → List ℕ) → ℕ → (ℕ → List ℕ → (ℕ → List ℕ) → Type 0) → Type 0
  Gets sent t Q = (i : ℕ) → i < n → (w : List ℕ) → Known n l C t i w → (m : ℕ → List ℕ) → Mail n sent i m → Q i w m

  -- its messages are len bytes long, are formed, and have no fault
  pub record Heard (R : Recv) (len : ℕ) (sent : ℕ → ℕ → List ℕ) (t : ℕ) : Type 0 where
    pub lens : (j r : ℕ) → j < n → r < n → j ≢ r → length (sent j r) ≡ len
    pub formed : (i j : ℕ) → i < n → j < n → i ≢ j → R.form (frame n l i) (sent j i) ≡ 0
    pub judged : Gets sent t (λ i w m. (R.judge (frame n l i) w m).code ≡ 0)

  -- a round but the last, received at moment t: besides, what it keeps for moment u
  pub record HonestRecv (R : Recv) (len : ℕ) (sent : ℕ → ℕ → List ℕ) (t u : ℕ) : Type 0 where
    pub heard : Heard R len sent t
    pub keeps : Gets sent t (λ i w m. Known n l C u i (R.keep (frame n l i) w m))

  -- a round with an echo: all receivers hash one list
  pub record HonestList (R : Recv) (sent : ℕ → ℕ → List ℕ) (hashed : ℕ → List ℕ) : Type 0 where
    pub size : (j : ℕ) → j < n → length (hashed j) ≡ 16
    pub hashes : (i j : ℕ) → i < n → j < n → i ≢ j → R.digest (frame n l i) (sent j i) ≡ hashed j

  -- a round but the first, its messages made between moments t and u: what is kept, and what is sent
  pub record HonestSend (S : Send) (loan : Loan) (sent : ℕ → ℕ → List ℕ) (t u : ℕ) : Type 0 where
    pub keeps : (i : ℕ) → i < n → (w : List ℕ) → Known n l C t i w → Known n l C u i (S.keep (frame n l i) loan w)
    pub writes : (i r : ℕ) → i < n → r < n → i ≢ r → (w : List ℕ) → Known n l C u i w
        → S.write (frame n l i) loan w r ≡ sent i r

  -- the last round: what it writes
  pub record HonestLast (R : Recv) (len : ℕ) (sent : ℕ → ℕ → List ℕ) (t : ℕ) (write : Frame → List ℕ → (ℕ → List ℕ) → List ℕ)
      (result : ℕ → List ℕ) : Type 0 where
    pub heard : Heard R len sent t
    pub results : Gets sent t (λ i w m. write (frame n l i) w m ≡ result i)

-- ---- the honest run
-- The moments of a run: before the messages of round k are made, and when it is due. A section that receiving round k fills is ready from
-- `before` of the next plain round on, one that making its messages fills from `due k` on
abbrev pub before : ℕ → ℕ
before k = k + k

abbrev pub due : ℕ → ℕ
due k = suc (k + k)

-- the plain round that comes after round k
unfoldable pub plain_after : Table → ℕ → ℕ
plain_after T k = suc (pick (is_echo T (suc k)) (suc k) k)

-- ---- what the table owes
-- no echo follows another, and neither the first round nor the last is one: one computed test
unfoldable pub order_test : Table → Bool
order_test T =
    not (is_echo T 1) && not (is_echo T T.order.last) && all_of (suc T.order.last) (λ k. not (is_echo T k && is_echo T (suc k)))

-- every number of the order is a round's, and after the last comes 0
unfoldable pub course_test : Table → Bool → Bool
course_test T two = all_of (steps_of T two) (λ d. round_in T.order two (number_of T two d)) && eqb (number_of T two (steps_of T two)) 0

-- for n boxes with l: opening takes them, the order is one, and the two sections of the echoes have their sizes
pub record Lawful (T : Table) (n l : ℕ) : Type 0 where
  pub fine : (i : ℕ) → i < n → T.fine (frame n l i) ≡ true
  pub order : order_test T ≡ true
  pub course : (two : Bool) → course_test T two ≡ true
  pub size-pending : (i : ℕ) → T.size (frame n l i) T.count ≡ 2
  pub size-hashes : (i : ℕ) → T.size (frame n l i) (suc T.count) ≡ n * 16
  pub echo : EchoLaws T.echo n

-- What an honest run holds and sends. loan k: what is lent with the call that makes round k's messages; ready t s: section s holds its
-- value at moment t; val t i s: that value, in box i; sent k j r: what j sends to r for round k; hashed k j: the hash of j's list, for
-- a round with an echo; result i: what the last call of i writes
pub record Script : Type 0 where
  pub loan : ℕ → Loan
  pub ready : ℕ → ℕ → Bool
  pub val : ℕ → ℕ → ℕ → List ℕ
  pub sent : ℕ → ℕ → ℕ → List ℕ
  pub hashed : ℕ → ℕ → List ℕ
  pub result : ℕ → List ℕ

module _ (T : Table) (U : Script) (n l : ℕ) where
  -- the rounds' own sections
  abbrev pub store_of : Store
  store_of = record { total = suc (suc T.count); count = T.count; size = T.size; ready = U.ready; val = U.val }

  -- round k of the table, received; its echo; its messages made
  abbrev pub RecvAt : ℕ → Type 0
  RecvAt k = HonestRecv n l store_of (T.recv k) ((T.send k).len n l) (U.sent k) (due k) (before (plain_after T k))

  abbrev pub ListAt : ℕ → Type 0
  ListAt k = HonestList n l store_of (T.recv k) (U.sent k) (U.hashed k)

  abbrev pub SendAt : ℕ → Type 0
  SendAt k = HonestSend n l store_of (T.send k) (U.loan k) (U.sent k) (before k) (due k)

  abbrev pub LastAt : ℕ → Type 0
  LastAt k = HonestLast n l store_of (T.recv k) ((T.send k).len n l) (U.sent k) (due k) T.result U.result

  -- all rounds. plain: those that are no echoes, but for the last
  pub record Honest : Type 0 where
    pub plain : List ℕ
    pub whole : all_of T.order.last (λ k. pick (eqb k 0) true (pick (is_echo T k) true (mem k plain))) ≡ true
    pub recv : Every RecvAt plain
    pub send : Every (λ k. SendAt (plain_after T k)) plain
    pub lists : Every (λ k. ListAt (prior k)) T.order.echoes
    pub last : LastAt T.order.last

  -- ---- the sheet of the session
  -- an echo k comes before the messages of round k + 1 are made
  unfoldable pub moment_of : ℕ → ℕ
  moment_of k = pick (is_echo T k) (before (suc k)) (due k)

  -- the two sections of the echoes hold something when an echo is due
  unfoldable pub ready_of : ℕ → ℕ → Bool
  ready_of k s = pick (ltb s T.count) (U.ready (moment_of k) s) (is_echo T k)

  -- nothing waits for the echo, and the hashes are those of the round before it
  unfoldable pub val_of : ℕ → ℕ → ℕ → List ℕ
  val_of k i s =
      pick (ltb s T.count) (U.val (moment_of k) i s) (pick (eqb s T.count) (0 ∷ 0 ∷ []) (rows_of (frame n l i) (U.hashed (prior k))))

  -- an echo of the hashes, or the round's own message
  unfoldable pub sent_of : ℕ → ℕ → ℕ → List ℕ
  sent_of k j r = pick (is_echo T k) (T.echo.write n j (rows_of (frame n l j) (U.hashed (prior k))) r) (U.sent k j r)

  -- what holds when each round is due, echoes among them
  abbrev pub sheet_of : Sheet
  sheet_of = record {
    store = record { total = suc (suc T.count); count = suc (suc T.count); size = T.size; ready = ready_of; val = val_of };
    sent = sent_of;
    result = U.result;
  }

  -- what the call for round k is lent
  unfoldable pub loans_of : ℕ → Loan
  loans_of k = U.loan (next_of T (eqb n 2) k)
