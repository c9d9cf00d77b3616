use Rattle.std.specs.Prelude.{◌≡◌, ◌*◌}
use Rattle.lists.specs.Kit.{ap, ap₂, ◌∙◌, Bool, arith}
use Rattle.algebra.specs.Sum.{others}
use Rattle.block.specs.Group.{blocks}
use Rattle.share.specs.Layout.{record_len, record-some}
use Rattle.share.specs.Record.{bit_at}
use Rattle.engine.specs.declared.Frame.{Frame}
use Rattle.rounds.specs.Mail.{letter}
use Rattle.flaand.specs.HLaws.{z_term, masked_at, h-parts}
use Rattle.flaand.specs.KeptLaws.{x-at-in, r-at-in}
use Rattle.flaand.proofs.h.Goals as goal

pub x_at-requires : goal.x_at-requires
x_at-requires c =
    (c.requires.half_ands.0.ranges.range, c.requires.half_ands.1)

pub bit_at-x-requires : goal.bit_at-x-requires
bit_at-x-requires c =
    rw c.x_at.ensures (omega (arith, x-at-in c.requires.half_ands.0 c.args.t c.requires.half_ands.1, record-some c.args.f.n))

pub r_at-requires : goal.r_at-requires
r_at-requires c =
    (c.requires.half_ands.0.ranges.range, c.requires.half_ands.1)

pub z_terms-told-requires : goal.z_terms-told-requires
z_terms-told-requires c =
    record { n_bound = (c.requires.half_ands.0.ranges.range.eight, c.requires.half_ands.1); n_in_bounds = rw c.r_at.ensures (r-at-in c.requires.half_ands.0 c.args.t c.requires.half_ands.1); arrived = c.requires.arrived }

pub masked-requires : goal.masked-requires
masked-requires c =
    record { in_range = (c.requires.half_ands.0.ranges.range, c.requires.half_ands.1, c.requires.half_ands.0.leakies, c.requires.half_ands.0.bits); arrived = c.requires.arrived }

pub returns : goal.returns
returns c =
    let f : Frame = c.args.f in
    let m = letter c.args.incoming.now c.args.mail in
    let x : c.bit_at-x.result ≡ bit_at c.args.recs.now (c.args.t * record_len c.args.f.n) =
    c.bit_at-x.ensures ∙ ap (bit_at c.args.recs.now) c.x_at.ensures in
    c.xor-2.ensures
    ∙ ap₂ blocks.op
    (c.xor.ensures
    ∙ ap₂ blocks.op
    (c.z_terms-told.ensures ∙ ap (λ at. others blocks c.args.f.i c.args.f.n (z_term c.args.recs.now at c.args.delta.0 m c.args.t))
    c.r_at.ensures)
    c.hashes.ensures)
    (c.masked.ensures ∙ ap (λ (z : Bool). masked_at f c.args.delta.0 z c.args.rows.now c.args.zs.now m c.args.t) x)
    ∙ h-parts f c.args.delta.0 c.args.recs.now c.args.rows.now c.args.zs.now m c.args.t
