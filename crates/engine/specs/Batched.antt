-- "Once opened, messages, refusals and results equal those of a single batch of l with the same inputs and calls" (02, order 7): two sessions
-- that differ in their counts alone, which make one l, answer every list of calls alike.
use Rattle.std.specs.Prelude.{◌≡◌, List, [], ◌∷◌}
use Rattle.std.proofs.Math.Bool.{true}
use Prim.Native.Nat.{ℕ}
use Rattle.lists.specs.Pick.{pick}
use Rattle.batches.specs.Batches.{whole, untold}
use Rattle.engine.specs.Step.{Session, Outcome, Protocol, told_after}
use Rattle.engine.specs.Step.{round_spec}
use Rattle.engine.specs.World.{Box}
use Rattle.engine.specs.OneBox.{Turn, turn_box, taken}

-- two sessions beside each other, with counts c and d that make their l
pub record Beside (c d : List ℕ) (s t : Session) : Type 0 where
  pub party : s.party ≡ t.party
  pub due : s.due ≡ t.due
  pub first : s.counts ≡ c
  pub second : t.counts ≡ d
  pub first-makes : whole s.party.l c ≡ true
  pub second-makes : whole s.party.l d ≡ true

-- What a call leaves of one and of the other: verdict, messages or results, and work area are equal. Of the batches an accepted call after
-- which no round is due tells each one's own, and any other nothing
pub record Equal (c d : List ℕ) (o p : Outcome) : Type 0 where
  pub reply : o.reply ≡ p.reply
  pub work : o.work ≡ p.work
  pub out : o.out ≡ p.out
  pub sessions : Beside c d o.session p.session
  pub told-first : o.told ≡ pick (taken o.reply) (told_after o.session.due c) untold
  pub told-second : p.told ≡ pick (taken p.reply) (told_after p.session.due d) untold

-- what each of a list of calls leaves
abbrev pub outcomes : Protocol → Box → List Turn → List Outcome
outcomes P x [] = []
outcomes P x (a ∷ cs) = round_spec P x.session a.number a.lent x.work ∷ outcomes P (turn_box P x a) cs

abbrev pub AllEqual : List ℕ → List ℕ → List Outcome → List Outcome → Type 0
AllEqual c d [] [] = Unit {0}
AllEqual c d [] (p ∷ ps) = ⊥
AllEqual c d (o ∷ os) [] = ⊥
AllEqual c d (o ∷ os) (p ∷ ps) = Equal c d o p × AllEqual c d os ps
