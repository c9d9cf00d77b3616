use Rattle.lists.specs.Kit.{rules}
use Rattle.rounds.specs.Mail.{letter}
use Rattle.faand.specs.ItemLaws.{arrived}
use Rattle.faand_recv.specs.CheckLaws.{de_fault, faults-by}
use Rattle.faand_recv.proofs.judge.Goals as goal

pub by_party-requires : goal.by_party-requires
by_party-requires c k l ne =
    let there = arrived c.requires.received in
    search rules

pub returns : goal.returns
returns c =
    rw (faults-by, ← c.delta-delta.ensures)
    (c.by_party.ensures (de_fault c.args.f c.delta-delta.result.0 c.args.work.now (letter c.args.incoming.now c.args.mail)) (λ k r l ne h. search rules))
