use Rattle.lists.specs.Kit.{sym, ap, ◌∙◌, arith}
use Rattle.rounds.specs.Fashare.{dms_of}
use Rattle.rounds.specs.MailLaws.{letter-fits}
use Rattle.fashare_ver_recv.proofs.put_row.Goals as goal

pub letter-requires : goal.letter-requires
letter-requires c = letter-fits c.requires.checked.arrived c.args.k c.requires.k_lt_n.0 (λ e. c.requires.k_lt_n.1.0 (sym e))

pub copy_dms-requires : goal.copy_dms-requires
copy_dms-requires c = record {
  le_n = (omega (arith, c.requires.k_lt_n.0), (c.requires.checked.arrived.eight, c.requires.k_lt_n.1.1));
  dues = rw c.letter.ensures (c.requires.checked.dues c.args.k c.requires.k_lt_n.0 c.requires.k_lt_n.1.0);
}

pub returns : goal.returns
returns c = c.copy_dms.ensures ∙ ap (dms_of c.args.f.n) c.letter.ensures
