use Rattle.lists.specs.Kit.{arith, rules}
use Rattle.plan.specs.Plan.{msg_len, list_len, count_due, kind_of}
use Rattle.fashare_dibi.specs.Given.{DmsKept}
use Rattle.fashare_dibi.specs.Laws.{given}
use Rattle.fashare_dibi.proofs.write.Goals as goal

pub to_others-requires-clause-out_len : goal.to_others-requires-clause-out_len
unfolding msg_len list_len count_due kind_of
to_others-requires-clause-out_len c =
    (omega (arith, c.requires.work.ranges.range.two), c.requires.work.ranges.range.eight, c.requires.out_len)

pub to_others-requires-clause-put_pre : goal.to_others-requires-clause-put_pre
to_others-requires-clause-put_pre c k l ne row e =
    let kept : DmsKept c.args.f c.section-recs.result.now c.section-dms.result.now =
    given c.requires.work _ _ c.section-recs.ensures c.section-dms.ensures in
    search rules

pub returns : goal.returns
returns c =
    rw (← c.section-dms.ensures, ← c.section-recs.ensures, ← c.delta-delta.ensures)
    (c.to_others.ensures _ (λ k l ne row left e h. search rules))
