use Rattle.lists.specs.Kit.{sym, ◌∙◌}
use Rattle.rounds.specs.Mail.{letter}
use Rattle.session.specs.SessionLaws.{last-received, results-masked}
use Rattle.session.proofs.finish.Goals as goal

pub results-requires : goal.results-requires
results-requires c =
    record { work = c.requires.fact.work; out_len = c.requires.out_len; received = last-received c.args.f _ _ c.requires.fact.received }

pub returns : goal.returns
returns c =
    (c.clear.ensures, c.results.ensures ∙ sym (results-masked c.args.f c.args.w.now (letter c.args.incoming.now c.args.mail)))
