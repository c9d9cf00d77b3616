use Rattle.std.specs.Prelude.{◌+◌, ◌*◌, ◌≤◌}
use Rattle.lists.specs.Kit.{ap, ap₂, ◌∙◌, Bool, arith, length}
use Rattle.algebra.specs.Group.{sel}
use Rattle.algebra.specs.Sum.{others}
use Rattle.block.specs.Group.{blocks}
use Rattle.share.specs.Layout.{record_len, record-some}
use Rattle.share.specs.Record.{mac_at, key_at, bit_at}
use Rattle.share.specs.Share.{share_at}
use Rattle.plan.specs.Plan.{leaky}
use Rattle.rounds.specs.Haand as R
use Rattle.area.specs.Positions.{y-in}
use Rattle.haand_rows.proofs.phi.Goals as goal
use Rattle.haand_rows.proofs.phi.Goals.{Start}

-- the y record lies within
inside : (c : Start) → (leaky c.args.f.l + c.args.t) * record_len c.args.f.n + record_len c.args.f.n ≤ length c.args.recs.now
inside c = y-in c.args.f c.args.recs.now c.requires.records c.args.t c.requires.below

pub keys_and_macs-requires : goal.keys_and_macs-requires
keys_and_macs-requires c = (c.requires.ranges.range.eight, rw c.y_at-at.ensures (inside (goal.at.keys_and_macs-requires c).Start))

pub bit_at-requires : goal.bit_at-requires
bit_at-requires c =
    rw c.y_at-at.ensures (omega (arith, inside (goal.at.bit_at-requires c).Start, record-some c.args.f.n))

pub returns : goal.returns
unfolding R.phi R.y share_at
returns c =
    let s = c.args.recs.now in
    c.xor.ensures
    ∙ ap₂ blocks.op
    (c.keys_and_macs.ensures ∙ ap (λ at. others blocks c.args.f.i c.args.f.n (λ k'. blocks.op (key_at s at k') (mac_at s at k')))
    c.y_at-at.ensures)
    (c.times.ensures ∙ ap (λ (b : Bool). sel blocks b c.args.delta.0)
    (c.bit_at.ensures ∙ ap (bit_at s) c.y_at-at.ensures))
