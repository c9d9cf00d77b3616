use Rattle.lists.specs.Kit.{ap, ap₂, ◌∙◌, arith}
use Rattle.algebra.specs.Group.{addb, xor-addb}
use Rattle.share.specs.Layout.{record-some}
use Rattle.share.specs.Record.{bit_at}
use Rattle.share.specs.Share.{share_at}
use Rattle.rounds.specs.Haand as R
use Rattle.rounds.specs.Flaand as F
use Rattle.flaand.specs.KeptLaws.{r-at-in, z_in_lem}
use Rattle.flaand.proofs.e_at.Goals as goal

pub overflow_mul-t : goal.overflow_mul-t
overflow_mul-t c = omega (arith, z_in_lem c.requires.0 c.args.t c.requires.1)

pub bit-requires : goal.bit-requires
bit-requires c = omega (arith, z_in_lem c.requires.0 c.args.t c.requires.1)

pub r_at-requires : goal.r_at-requires
r_at-requires c =
    (c.requires.0.ranges.range, c.requires.1)

pub bit_at-requires : goal.bit_at-requires
bit_at-requires c =
    rw c.r_at.ensures (omega (arith, r-at-in c.requires.0 c.args.t c.requires.1, record-some c.args.f.n))

pub returns : goal.returns
unfolding F.e R.r R.z_at share_at
returns c =
    xor-addb c.bit.result c.bit_at.result
    ∙ ap₂ addb c.bit.ensures (c.bit_at.ensures ∙ ap (bit_at c.args.recs.now) c.r_at.ensures)
