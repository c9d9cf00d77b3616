use Rattle.lists.specs.Kit.{rules}
use Rattle.rounds.specs.Mail.{letter}
use Rattle.flaand_hash.specs.Laws.{opening-by}
use Rattle.flaand_hash.proofs.open.Goals as goal

pub returns : goal.returns
returns c =
    rw (opening-by c.args.f c.args.comms.now (letter c.args.incoming.now c.args.mail))
    (c.by_party.ensures _ (λ k r l ne h. search rules))
