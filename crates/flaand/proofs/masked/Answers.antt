use Rattle.std.specs.Prelude.{◌+◌, ◌*◌, ◌≤◌}
use Rattle.lists.specs.Kit.{ap, ap₂, ◌∙◌, Bool, arith, length}
use Rattle.lists.specs.Over.{in-chunks}
use Rattle.algebra.specs.Group.{sel}
use Rattle.block.specs.Block.{block_at}
use Rattle.block.specs.Group.{blocks}
use Rattle.plan.specs.Plan.{leaky}
use Rattle.rounds.specs.Area.{leaky_len}
use Rattle.rounds.specs.Haand as R
use Rattle.flaand.specs.HLaws.{masked_at}
use Rattle.flaand.proofs.masked.Goals as goal
use Rattle.flaand.proofs.masked.Goals.{After-load-phi}

pub leaky_at-requires : goal.leaky_at-requires
leaky_at-requires c = (c.requires.in_range.0, c.requires.in_range.1)

-- the row of LEAKY begins with phi
pub load-phi-requires : goal.load-phi-requires
unfolding leaky_len
load-phi-requires c =
    rw c.leaky_at.ensures (omega (arith, in-chunks c.args.t (leaky c.args.f.l) (leaky_len c.args.f.n) c.requires.in_range.1, c.requires.in_range.2))

-- the row of ZS
z_in_lem : (c : After-load-phi) → c.args.t * 17 + 17 ≤ length c.args.zs.now
z_in_lem c =
    omega (arith, in-chunks c.args.t (leaky c.args.f.l) 17 c.requires.in_range.1, c.requires.in_range.3)

pub overflow_mul-t : goal.overflow_mul-t
overflow_mul-t c = omega (arith, z_in_lem (goal.at.overflow_mul-t c).After-load-phi)

pub bit-z-requires : goal.bit-z-requires
bit-z-requires c = omega (arith, z_in_lem (goal.at.bit-z-requires c).After-load-phi)

pub returns : goal.returns
unfolding masked_at R.phi_at R.z_at
returns c =
    c.xor-2.ensures
    ∙ ap₂ blocks.op
    (c.const_mul.ensures
    ∙ ap (sel blocks c.args.x)
    (c.xor.ensures
    ∙ ap₂ blocks.op c.u_sum-us.ensures
    (c.load-phi.ensures ∙ ap (block_at c.args.rows.now) c.leaky_at.ensures)))
    (c.times.ensures ∙ ap (λ (b : Bool). sel blocks b c.args.delta.0) c.bit-z.ensures)
