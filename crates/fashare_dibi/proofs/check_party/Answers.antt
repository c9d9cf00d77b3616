use Rattle.lists.specs.Kit.{sym, ap, ◌∙◌, List, ℕ}
use Rattle.rounds.specs.MailLaws.{letter-fits, letter-long}
use Rattle.rounds.specs.Fashare as Fashare
use Rattle.fashare_dibi.proofs.check_party.Goals as goal

pub letter-requires : goal.letter-requires
letter-requires c = letter-fits c.requires.comms_len.1 c.args.k c.requires.q_bound.1.0 (λ e. c.requires.q_bound.1.1 (sym e))

pub check_opened-requires : goal.check_opened-requires
check_opened-requires c =
    let long = letter-long c.requires.comms_len.1 c.args.k c.requires.q_bound.1.0 (λ e. c.requires.q_bound.1.1 (sym e)) in
    record {
      q_bound = (c.requires.q_bound.0, c.requires.q_bound.1.0);
      dms_kept = c.requires.dms_kept;
      comms_len = (c.requires.comms_len.0, rw c.letter.ensures long);
    }

pub returns : goal.returns
unfolding Fashare.dibi_fault
returns c =
    c.check_opened.ensures
    ∙ ap (λ (m : List ℕ). Fashare.dibi_fault c.args.f c.args.recs.now c.args.comms.now c.args.dms.now (λ _. m) c.args.q c.args.k)
    c.letter.ensures
