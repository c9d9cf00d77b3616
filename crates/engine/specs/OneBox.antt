-- Calls of one box, and what the accepted ones read and were lent: each round is accepted once, so a list of calls has one message of each
-- party for each round.
use Rattle.std.specs.Prelude.{◌≡◌, Bool, ◌&&◌, List, [], ◌∷◌, ℕ, eqb}
use Rattle.std.proofs.Math.Bool.{true, false}
use Rattle.lists.specs.Pick.{pick}
use Rattle.engine.specs.Step.{Frame, frame, Loan, nothing, Lent, Reply, Accepted, Refused, Outcome, Protocol, mask, part}
use Rattle.engine.specs.Step.{round_spec}
use Rattle.engine.specs.World.{Box, turned_box}
use Rattle.engine.specs.Plain.{Table, next_of, protocol_of}

-- ---- calls of one box
pub record Turn : Type 0 where
  pub number : ℕ
  pub lent : Lent

abbrev pub turn_box : Protocol → Box → Turn → Box
turn_box P x c =
    let r : Outcome = round_spec P x.session c.number c.lent x.work in
    turned_box x r r.reply

abbrev pub turns : Protocol → Box → List Turn → Box
turns P x [] = x
turns P x (c ∷ cs) = turns P (turn_box P x c) cs

-- ---- which calls are meant
-- Box i of n with l. m k j: what was read of party j for round k; q k: what was lent with the call that makes the messages of round k
module _ (T : Table) (n l i : ℕ) (m : ℕ → ℕ → List ℕ) (q : ℕ → Loan) where
  -- an accepted call reads m and is lent q
  abbrev pub Reads : Box → Turn → Type 0
  Reads x c = (round_spec (protocol_of T) x.session c.number c.lent x.work).reply ≡ Accepted
      → ((j : ℕ) → mask (frame n l i) (part c.lent) j ≡ m c.number j)
      × (c.lent.loan ≡ q (next_of T (eqb n 2) c.number))

  abbrev pub AllRead : Box → List Turn → Type 0
  AllRead x [] = Unit {0}
  AllRead x (c ∷ cs) = Reads x c × AllRead (turn_box (protocol_of T) x c) cs

-- a call was accepted
abbrev pub taken : Reply → Bool
taken Accepted = true
taken (Refused c p) = false

module _ (T : Table) (n l i : ℕ) where
  abbrev f : Frame
  f = frame n l i

  abbrev two : Bool
  two = eqb n 2

  abbrev P : Protocol
  P = protocol_of T

  -- the answer to a call of box x
  abbrev pub answer : Box → Turn → Reply
  answer x c = (round_spec P x.session c.number c.lent x.work).reply

  -- what the accepted call for round k reads of party j, in a list of calls of box x
  abbrev pub received : Box → List Turn → ℕ → ℕ → List ℕ
  received x [] k j = []
  received x (c ∷ cs) k j =
      pick (taken (answer x c) && eqb k c.number) (mask f (part c.lent) j) (received (turn_box P x c) cs k j)

  -- what the accepted call that makes the messages of round k is lent
  abbrev pub lent_with : Box → List Turn → ℕ → Loan
  lent_with x [] k = nothing
  lent_with x (c ∷ cs) k = pick (taken (answer x c) && eqb k (next_of T two c.number)) c.lent.loan (lent_with (turn_box P x c) cs k)
