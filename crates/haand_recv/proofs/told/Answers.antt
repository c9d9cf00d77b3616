use Rattle.std.specs.Prelude.{◌&&◌}
use Rattle.lists.specs.Kit.{ap, ap₂, ◌∙◌, arith, rules}
use Rattle.algebra.specs.Group.{bits, addb, sel, xor-addb}
use Rattle.share.specs.Layout.{record-some}
use Rattle.share.specs.Record.{bit_at}
use Rattle.share.specs.Share.{share_at}
use Rattle.rounds.specs.Mail.{letter}
use Rattle.rounds.specs.Haand as R
use Rattle.area.specs.Positions.{x_in_lem, y-in}
use Rattle.haand_recv.specs.Received as Got
use Rattle.haand_recv.proofs.told.Goals as goal

pub bit_at-x-requires : goal.bit_at-x-requires
bit_at-x-requires c =
    let e = x_in_lem c.args.f c.args.recs.now c.requires.asked.records c.args.t c.requires.asked.below in
    omega (arith, e, c.x_at.ensures, record-some c.args.f.n)

pub bit_at-y-requires : goal.bit_at-y-requires
bit_at-y-requires c =
    let e = y-in c.args.f c.args.recs.now c.requires.asked.records c.args.t c.requires.asked.below in
    omega (arith, e, c.y_at.ensures, record-some c.args.f.n)

pub returns : goal.returns
unfolding Got.told R.x R.y share_at
returns c =
    xor-addb c.sum_others-v.result (c.bit_at-x.result && c.bit_at-y.result)
    ∙ ap₂ addb
    (c.sum_others-v.ensures (Got.told_by c.args.f c.args.masks.now c.args.recs.now (letter c.args.incoming.now c.args.mail) c.args.t)
    (λ k r l ne h. search rules))
    (Got.both c.bit_at-x.result c.bit_at-y.result
    ∙ ap₂ (sel bits) (c.bit_at-x.ensures ∙ ap (bit_at c.args.recs.now) c.x_at.ensures)
    (c.bit_at-y.ensures ∙ ap (bit_at c.args.recs.now) c.y_at.ensures))
