use Rattle.std.specs.Prelude.{◌+◌, ◌≤◌, ◌<◌}
use Rattle.lists.specs.Kit.{arith, rules, length}
use Rattle.share.specs.Record.{record_len}
use Rattle.share.specs.Share.{share_at}
use Rattle.rounds.specs.Fashare.{d0, own}
use Rattle.fashare_comm.specs.Laws.{entry_in}
use Rattle.fashare_comm.proofs.d0.Goals as goal

pub record_at-at-requires : goal.record_at-at-requires
record_at-at-requires c = (c.requires.1.range, c.requires.0)

pub sum_others-requires : goal.sum_others-requires
sum_others-requires c k l ne =
    let few : k < 8 = omega (arith, c.requires.1.range) in
    let w : c.record_at-at.result + record_len (k + 1) ≤ length c.args.recs.now =
    entry_in c.requires.1 c.args.q c.record_at-at.result c.requires.0 c.record_at-at.ensures k l in
    search rules

pub returns : goal.returns
unfolding d0 own share_at
returns c = c.sum_others.ensures _ (λ k r l ne h. search rules)
