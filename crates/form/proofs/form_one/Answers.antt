-- `form::form_one` meets its contract.
use Rattle.lists.specs.Kit.{sym, ap, ◌∙◌}
use Rattle.message.specs.Format as Format
use Rattle.rounds.specs.Mail as Mail
use Rattle.admit.specs.Admit.{posted}
use Rattle.admit.proofs.AdmitLaws.{fits-inside, fault-gone, fault-there}
use Rattle.form.proofs.form_one.Goals as goal

pub returns-then-missing-k-ne0 : goal.returns-then-missing-k-ne0
returns-then-missing-k-ne0 c =
    fault-gone c.args.i (posted c.args.incoming.now c.args.mail c.args.missing.now) c.args.k c.args.kind c.args.count c.if-missing-k-ne0.true

pub letter-requires : goal.letter-requires
letter-requires c = (
  c.requires.k_bound.0,
  fits-inside c.args.i (posted c.args.incoming.now c.args.mail c.args.missing.now) c.args.k (λ e. c.requires.k_bound.2 (sym e))
      c.if-missing-k-ne0.false c.requires.k_value,
)

pub returns : goal.returns
unfolding Mail.letter
returns c =
    fault-there c.args.i (posted c.args.incoming.now c.args.mail c.args.missing.now) c.args.k c.args.kind c.args.count c.if-missing-k-ne0.false _
    (c.form_of.ensures ∙ ap (Format.form_of c.args.kind c.args.count) c.letter.ensures)
