-- DEMAND 3: what is claimed of a run, here of any scene of calls; proofs/Theorem.antt has the scene of a run whose inputs meet the premises
-- (Premises.antt; the lists of calls are in engine's World.antt), and the proof.
use Rattle.std.specs.Prelude.{◌≡◌, ◌&&◌, ◌≢◌, ◌↔◌, ℕ, ◌*◌, ◌<◌, eqb}
use mathlib.Core.List.{List}
use Rattle.std.proofs.Math.Option.{some}
use Rattle.std.proofs.Math.ListN.{length}
use Rattle.lists.specs.Pick.{pick}
use Rattle.algebra.specs.Group.{bits, sel}
use Rattle.algebra.specs.Sum.{sum}
use Rattle.block.specs.Group.{blocks}
use Rattle.share.specs.Record.{bit_at}
use Rattle.share.specs.Lent.{lent_len, lent_at}
use Rattle.engine.specs.Step.{Lent, Protocol}
use Rattle.engine.specs.World.{In, All, Box, Call, opening, turn, Scene, start, runs, FairList, AllRight, Done}
use Rattle.engine.specs.Plain.{protocol_of}
use Rattle.rounds.specs.Area.{work_len}
use Rattle.rounds.specs.Opening.{Args}
use Rattle.honest.specs.Subject.{subject}
use Rattle.honest.specs.Inputs.{Run, box, deltas}

-- the session of document 01, after its opening
abbrev pub session : Protocol
session = protocol_of subject

-- ---- WHAT IS CLAIMED, of a run: n boxes with one l, box b opened with `inputs b`, all lent the same r strings, of which nothing is asked.
-- "Demand 3's equal r strings are the Blocks lent or drawn, whichever form each box got." (02, order 4)
module _ (R : Run) (scene : Scene Args) where
  open R use {n, l, inputs}

  -- "every list of openings and round calls in which a box takes a round only once its messages are there, whatever the order among boxes
  -- and whichever calls stand between that 01 refuses without ending a session"
  abbrev pub Fine : List (Call Args) → Type 0
  Fine cs = FairList scene start cs

  -- box b stands as x after the list
  abbrev pub Stands : List (Call Args) → ℕ → Box → Type 0
  Stands cs b x = (runs scene cs).box b ≡ some x

  -- "22 of its rounds (14 for two boxes)"
  abbrev pub all-rounds : ℕ
  all-rounds = pick (eqb n 2) 14 22

  pub record Claim (cs : List (Call Args)) : Type 0 where
    -- "exactly those are refused, and change nothing": of every call of the list
    pub exactly : AllRight scene start cs
    -- and none for a work area that the box's last call left: it is as long as it should, until the box is done
    pub area : (b : ℕ) (x : Box) → Stands cs b x → x.rounds < all-rounds → length x.work ≡ work_len (box R b)
    -- "a box is done exactly when 22 of its rounds (14 for two boxes) were accepted"
    pub done : (b : ℕ) (x : Box) → Stands cs b x → Done session x.session ↔ x.rounds ≡ all-rounds
    -- "Its result shares are the l records its accepted round 22 call wrote"
    pub records : (b : ℕ) (x : Box) → Stands cs b x → Done session x.session → length x.wrote ≡ l * lent_len n
    -- "that MAC rule holds between the result shares of any two done boxes": at position t j's MAC for k equals k's key for j, plus the
    -- delta k was opened with where j's bit is 1
    pub macs : (j k : ℕ) (x y : Box) → Stands cs j x → Stands cs k y → j ≢ k
        → Done session x.session → Done session y.session → (t : ℕ) → t < l
        → (lent_at x.wrote (t * lent_len n)).mac k
        ≡ blocks.op ((lent_at y.wrote (t * lent_len n)).key j) (sel blocks (bit_at x.wrote (t * lent_len n)) (deltas R k))
    -- "and once all are done, the bits of each result XOR to (XOR of alphas) AND (XOR of betas)"
    pub ands : (x : ℕ → Box) → ((b : ℕ) → b < n → Stands cs b (x b) × Done session (x b).session) → (t : ℕ) → t < l
        → sum bits n (λ b. bit_at (x b).wrote (t * lent_len n))
        ≡ (sum bits n (λ b. bit_at (inputs b).alpha (t * lent_len n)) && sum bits n (λ b. bit_at (inputs b).beta (t * lent_len n)))

-- a call of box b for round 5, which writes `fabitn`, is lent x as r
abbrev pub LentR : ℕ → List ℕ → Call Args → Type 0
LentR b x (opening c a) = Unit {0}
LentR b x (turn c k q) = c ≡ b → k ≡ 5 → q.loan.r ≡ x

-- box b takes that round in the list, and whenever it does it is lent x as r, all strings or a seed
pub record LentAs (b : ℕ) (x : List ℕ) (cs : List (Call Args)) : Type 0 where
  pub one : (q : Lent) × In (turn b 5 q) cs
  pub each : All (LentR b x) cs
