use Rattle.lists.specs.Kit.{sym, ap, ◌∙◌, List, ℕ, arith}
use Rattle.rounds.specs.Fashare as Fashare
use Rattle.rounds.specs.MailLaws.{letter-fits}
use Rattle.fashare_ver_recv.proofs.check_party.Goals as goal

pub letter-requires : goal.letter-requires
letter-requires c = letter-fits c.requires.checked.arrived c.args.k c.requires.k_lt_n.0 (λ e. c.requires.k_lt_n.1.0 (sym e))

pub check_dm-requires : goal.check_dm-requires
check_dm-requires c = record {
  dues = rw c.letter.ensures (c.requires.checked.dues c.args.k c.requires.k_lt_n.0 c.requires.k_lt_n.1.0);
  le_n = (omega (arith, c.requires.k_lt_n.0), (c.requires.checked.arrived.eight, c.requires.k_lt_n.1.1));
}

pub returns : goal.returns
unfolding Fashare.dm_fault
returns c = c.check_dm.ensures c.args.k ∙ ap (λ (m : List ℕ). Fashare.dm_fault c.args.f (λ _. m) c.args.q c.args.k) c.letter.ensures
