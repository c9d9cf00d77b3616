use Rattle.lists.specs.Kit.{sym, ap, ap₂, ◌∙◌, List, Bool, ℕ, arith, length}
use Rattle.algebra.specs.Group.{addb, xor-addb}
use Rattle.share.specs.Layout.{record-some}
use Rattle.share.specs.Record.{bit_at}
use Rattle.share.specs.Share.{share_at}
use Rattle.encode.specs.Stretch.{in_list}
use Rattle.plan.specs.Plan.{leaky}
use Rattle.rounds.specs.MailLaws.{letter-long}
use Rattle.rounds.specs.Haand as R
use Rattle.area.specs.Positions.{position-most, x_in_lem}
use Rattle.haand_recv.specs.Received.{received, told_by}
use Rattle.haand_recv.proofs.told_by.Goals as goal

pub bit_at-x-requires : goal.bit_at-x-requires
bit_at-x-requires c =
    let e = x_in_lem c.args.f c.args.recs.now c.requires.asked.0.records c.args.t c.requires.asked.0.below in
    omega (arith, e, c.x_at.ensures, record-some c.args.f.n)

pub received-requires : goal.received-requires
received-requires c = (
  position-most c.args.f c.requires.asked.0.ranges.range c.args.t c.requires.asked.0.below,
  omega (
    arith,
    letter-long c.requires.arrived c.args.k c.requires.asked.1 (λ e. c.requires.asked.2 (sym e)),
    ap length c.letter.ensures,
    in_list c.args.t (leaky c.args.f.l) 2 c.requires.asked.0.below,
  ),
)

pub returns : goal.returns
unfolding told_by R.x R.mask share_at
returns c =
    xor-addb c.mask_bit.result c.received.result
    ∙ ap₂ addb c.mask_bit.ensures
    (c.received.ensures ∙ ap₂ (λ (l : List ℕ) (b : Bool). received l c.args.t b) c.letter.ensures
    (c.bit_at-x.ensures ∙ ap (bit_at c.args.recs.now) c.x_at.ensures))
