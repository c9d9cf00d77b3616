use Rattle.std.specs.Prelude.{◌≡◌}
use Rattle.lists.specs.Kit.{sym, ap, ◌∙◌, List, Bool, ℕ, arith, length}
use Rattle.lists.specs.Pick.{pick}
use Rattle.lists.specs.All.{all_of}
use Rattle.rounds.specs.Mail.{letter}
use Rattle.rounds.specs.MailLaws.{letter-fits, letter-long}
use Rattle.faand_recv.specs.CheckLaws.{holds, de_fault}
use Rattle.faand_recv.proofs.check_macs.Goals as goal
use Rattle.faand_recv.proofs.check_macs.Goals.{After-message_holds}

pub letter-m-requires : goal.letter-m-requires
letter-m-requires c = letter-fits c.requires.arrived c.args.k c.requires.work.1 (λ e. c.requires.work.3 (sym e))

pub message_holds-requires : goal.message_holds-requires
message_holds-requires c =
    record {
      work = (c.requires.work.0, c.requires.work.2);
      k_lt_n = (
        c.requires.work.1,
        omega (arith, ap length c.letter-m.ensures, letter-long c.requires.arrived c.args.k c.requires.work.1 (λ e. c.requires.work.3 (sym e))),
      );
    }

-- by the answer
answers : (c : After-message_holds) → pick c.message_holds.result 0 12
    ≡ de_fault c.args.f c.args.delta.0 c.args.work.now (letter c.args.incoming.now c.args.mail) c.args.k
unfolding de_fault
answers c =
    ap (λ (b : Bool). pick {A = ℕ} b 0 12)
    (c.message_holds.ensures ∙ ap (λ (l : List ℕ). all_of c.args.f.l (holds c.args.f c.args.delta.0 c.args.work.now l c.args.k))
    c.letter-m.ensures)

pub returns-then-message_holds : goal.returns-then-message_holds
returns-then-message_holds c = ap (λ (b : Bool). pick {A = ℕ} b 0 12) (sym c.if-message_holds.true) ∙ answers (goal.at.returns-then-message_holds c).After-message_holds

pub returns-else-message_holds : goal.returns-else-message_holds
returns-else-message_holds c = ap (λ (b : Bool). pick {A = ℕ} b 0 12) (sym c.if-message_holds.false) ∙ answers (goal.at.returns-else-message_holds c).After-message_holds
