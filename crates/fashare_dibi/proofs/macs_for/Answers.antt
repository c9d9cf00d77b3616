use Rattle.lists.specs.Kit.{ap, ap₂, ◌∙◌, arith, rules}
use Rattle.block.specs.Group.{blocks}
use Rattle.share.specs.Record.{mac_at}
use Rattle.share.specs.Share.{share_at}
use Rattle.rounds.specs.Fashare.{own, macs_for}
use Rattle.fashare_comm.specs.Laws.{entry_in}
use Rattle.fashare_dibi.proofs.macs_for.Goals as goal

pub record_at-requires : goal.record_at-requires
record_at-requires c = (c.requires.dms_kept.own.range, c.requires.q_bound.0)

pub mac_at-own-requires : goal.mac_at-own-requires
mac_at-own-requires c =
    let inside = entry_in c.requires.dms_kept.own c.args.q _ c.requires.q_bound.0 c.record_at.ensures c.args.k c.requires.q_bound.1 in
    (omega (arith, c.requires.dms_kept.own.range.eight, c.requires.q_bound.1), inside)

pub returns : goal.returns
unfolding macs_for own share_at
returns c =
    c.xor.ensures
    ∙ ap₂ blocks.op (c.mac_at-own.ensures ∙ ap (λ t. mac_at c.args.recs.now t c.args.k) c.record_at.ensures)
    (c.sum_others-sum.ensures _ (λ j r l ne h. search rules))
