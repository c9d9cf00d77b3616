use Rattle.lists.specs.Kit.{rules}
use Rattle.rounds.specs.Mail.{letter}
use Rattle.buckets.specs.Given.{lent_is}
use Rattle.dvalue_recv.specs.Checks.{d_fault, faults-by}
use Rattle.dvalue_recv.proofs.judge.Goals as goal

pub by_party-requires : goal.by_party-requires
by_party-requires c k l ne =
    let permuted = lent_is c.requires.work c.section-recs.ensures c.section-perm.ensures in
    search rules

pub returns : goal.returns
returns c =
    rw (← c.section-perm.ensures, ← c.section-recs.ensures, ← c.delta-delta.ensures, faults-by)
    (c.by_party.ensures (d_fault c.args.f c.delta-delta.result.0 c.section-recs.result.now c.section-perm.result.now
    (letter c.args.incoming.now c.args.mail))
    (λ k r l ne h. search rules))
