use Rattle.lists.specs.Kit.{sym, ap, ◌∙◌}
use Rattle.message.specs.declared.Kind.TheVariants.{Options}
use Rattle.message.specs.Format.{form_of}
use Rattle.rounds.specs.MailLaws.{letter-fits}
use Rattle.echo.proofs.check_letter.Goals as goal

pub letter-requires : goal.letter-requires
letter-requires c =
    letter-fits c.requires.received.arrived c.args.j c.requires.n_bound.1 (λ e. c.requires.n_bound.2 (sym e))

pub check_echo-requires : goal.check_echo-requires
check_echo-requires c = record {
  m_value = ap (form_of Options c.args.f.n) c.letter.ensures
      ∙ c.requires.received.formed-is c.args.j c.requires.n_bound.1 c.requires.n_bound.2;
  n_bound = (c.requires.n_bound.0, c.requires.n_bound.3);
}
