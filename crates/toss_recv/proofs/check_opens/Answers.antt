use Rattle.std.specs.Prelude.{◌≡◌}
use Rattle.lists.specs.Kit.{sym, ap, ◌∙◌, Bool, ℕ}
use Rattle.lists.specs.Pick.{pick}
use Rattle.blake3.specs.Tree.{bytes}
use Rattle.rounds.specs.Mail.{letter}
use Rattle.rounds.specs.Toss as Toss
use Rattle.rounds.specs.TossLaws.{open_fault, open_of}
use Rattle.toss_recv.proofs.check_opens.Goals as goal
use Rattle.toss_recv.proofs.check_opens.Goals.{After-is}

-- what was compared, by the answer
answers : (c : After-is) → pick c.is.result 0 2 ≡ open_fault c.args.comms.now (letter c.args.incoming.now c.args.mail) c.args.k
answers c =
    open_of c.args.comms.now (letter c.args.incoming.now c.args.mail) c.args.k (bytes c.commitment.result.0) c.is.result
    (c.commitment.ensures ∙ ap (λ s. Toss.commitment s c.args.k) c.told.ensures.0) c.is.ensures

pub returns-then-is : goal.returns-then-is
returns-then-is c = ap (λ (b : Bool). pick {A = ℕ} b 0 2) (sym c.if-is.true) ∙ answers (goal.at.returns-then-is c).After-is

pub returns-else-is : goal.returns-else-is
returns-else-is c = ap (λ (b : Bool). pick {A = ℕ} b 0 2) (sym c.if-is.false) ∙ answers (goal.at.returns-else-is c).After-is
