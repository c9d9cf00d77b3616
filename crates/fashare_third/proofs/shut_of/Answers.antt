use Rattle.lists.specs.Kit.{sym, ap, ◌∙◌, List, ℕ, arith}
use Rattle.std.proofs.Common.{subst}
use Rattle.lists.specs.Over.{in-chunks}
use Rattle.message.specs.declared.Kind.TheVariants.{Dms}
use Rattle.message.specs.Format.{form_of}
use Rattle.rounds.specs.MailLaws.{letter-fits}
use Rattle.rounds.specs.Fashare.{STRINGS, COMM_ROW, third_fault}
use Rattle.fashare_third.specs.Laws.{First}
use Rattle.fashare_third.proofs.shut_of.Goals as goal

pub letter-requires : goal.letter-requires
letter-requires c = letter-fits c.requires.received.arrived c.args.k c.requires.k_lt_n.0 (λ e. c.requires.k_lt_n.1.0 (sym e))

pub first_shut-requires : goal.first_shut-requires
first_shut-requires c =
    record {
      m_value =
          ap (form_of Dms STRINGS) c.letter.ensures
          ∙ c.requires.received.formed-is c.args.k c.requires.k_lt_n.0 c.requires.k_lt_n.1.0;
      k_bound = (
        omega (arith, c.requires.k_lt_n.0, c.requires.received.arrived.eight),
        omega (arith, c.requires.comms_len, in-chunks c.args.k c.args.f.n COMM_ROW c.requires.k_lt_n.0),
      );
      most_bound = c.requires.k_lt_n.1.1;
    }

pub returns : goal.returns
unfolding third_fault
returns c =
    subst (λ (x : List ℕ). First (λ q. third_fault c.args.comms.now (λ _. x) q c.args.k) c.args.most c.first_shut.result) c.letter.ensures
    c.first_shut.ensures
