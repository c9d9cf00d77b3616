-- What the parts of a round call are given.
use Rattle.std.specs.Prelude.{◌≡◌, true, List, ℕ, length}
use Rattle.plan.specs.Plan.{is_round, kind_of, count_due}
use Rattle.engine.specs.declared.Frame.{Frame}
use Rattle.engine.specs.Step.{parts_in}
use Rattle.rounds.specs.declared.Mail.{Mail}
use Rattle.rounds.specs.EchoLaws.{Received}
use Rattle.area.specs.Given.{Work}
use Rattle.admit.specs.Admit.{posted}

-- let through to the content: round k is one, the work area is whole, the messages are in form
pub record Let (f : Frame) (k : ℕ) (w incoming : List ℕ) (mail : Mail) : Type 0 where
  pub work : Work f w
  pub round : is_round f.n k ≡ true
  pub received : Received (kind_of f.l k) (count_due f.n f.l k) f incoming mail

-- let through to the messages: their parts lie inside
pub record Admitted (f : Frame) (k : ℕ) (w incoming : List ℕ) (mail : Mail) (missing : List ℕ) : Type 0 where
  pub work : Work f w
  pub round : is_round f.n k ≡ true
  pub missing-n : length missing ≡ f.n
  pub parts : parts_in f (posted incoming mail missing) ≡ true
