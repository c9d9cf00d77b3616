use Rattle.std.specs.Prelude.{◌≡◌}
use Rattle.lists.specs.Kit.{sym, ap, ◌∙◌, List, Bool, ℕ, arith, length}
use Rattle.lists.specs.Pick.{pick}
use Rattle.rounds.specs.Mail.{letter}
use Rattle.rounds.specs.MailLaws.{letter-fits}
use Rattle.dvalue.specs.Dvalues.{told-long}
use Rattle.dvalue_recv.specs.Checks.{message_holds, d_fault}
use Rattle.dvalue_recv.proofs.check_macs.Goals as goal
use Rattle.dvalue_recv.proofs.check_macs.Goals.{After-message_holds}

pub letter-m-requires : goal.letter-m-requires
letter-m-requires c = letter-fits c.requires.received.arrived c.args.k c.requires.ranged.1 (λ e. c.requires.ranged.2 (sym e))

pub message_holds-requires : goal.message_holds-requires
message_holds-requires c =
    record {
      ranged = c.requires.ranged.0;
      permuted = c.requires.permuted;
      k_lt_n = (
        c.requires.ranged.1,
        omega (
          arith,
          ap length c.letter-m.ensures,
          told-long c.requires.received c.args.k c.requires.ranged.1 (λ e. c.requires.ranged.2 (sym e)),
        ),
      );
    }

-- by the answer
answers : (c : After-message_holds) → pick c.message_holds.result 0 11
    ≡ d_fault c.args.f c.args.delta.0 c.args.recs.now c.args.perm.now (letter c.args.incoming.now c.args.mail) c.args.k
unfolding d_fault
answers c =
    ap (λ (b : Bool). pick {A = ℕ} b 0 11)
    (c.message_holds.ensures ∙ ap (λ (t : List ℕ). message_holds c.args.f c.args.delta.0 c.args.recs.now c.args.perm.now t c.args.k)
    c.letter-m.ensures)

pub returns-then-message_holds : goal.returns-then-message_holds
returns-then-message_holds c = ap (λ (b : Bool). pick {A = ℕ} b 0 11) (sym c.if-message_holds.true) ∙ answers
    (goal.at.returns-then-message_holds c).After-message_holds

pub returns-else-message_holds : goal.returns-else-message_holds
returns-else-message_holds c = ap (λ (b : Bool). pick {A = ℕ} b 0 11) (sym c.if-message_holds.false) ∙ answers
    (goal.at.returns-else-message_holds c).After-message_holds
