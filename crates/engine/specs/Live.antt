-- The premises can be met: all boxes open, and then each takes each round in turn. The list is fair, and all end done.
use Rattle.std.specs.Prelude.{◌≡◌, ℕ, ◌<◌}
use Rattle.engine.specs.Step.{Loan}
use Rattle.engine.specs.World.{Scene}

-- inputs for every box, and r Blocks that have no reason: lends b k, with box b's call for round k. What is lent may
-- differ from box to box.
pub record Cast {Args : Type 0} (S : Scene Args) : Type 0 where
  pub args : ℕ → Args
  pub lends : ℕ → ℕ → Loan
  pub given : (b : ℕ) → b < S.n → S.Given b (args b)
  pub valid : (b d : ℕ) → b < S.n → d < S.course.steps
      → (S.protocol.rule (S.course.number d)).lent S.n S.l (lends b (S.course.number d)) ≡ 0
  pub agree : (b d : ℕ) → b < S.n → d < S.course.steps → S.Agrees (S.course.number d) (lends b (S.course.number d))
