use Rattle.rounds.specs.Mail.{letter}
use Rattle.flaand.specs.AreaLaws.{both-kept}
use Rattle.flaand.proofs.keep.Goals as goal

pub returns : goal.returns
returns c =
    both-kept c.requires.work (letter c.args.incoming.now c.args.mail) _ _ c.hold_es.ensures c.keep_hs.ensures
