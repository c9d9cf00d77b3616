use Rattle.std.specs.Prelude.{◌≡◌, ◌+◌, ◌*◌, ◌≤◌}
use Rattle.lists.specs.Kit.{ap₂, ◌∙◌, arith, length}
use Rattle.lists.specs.Over.{in-chunks}
use Rattle.block.specs.Block.{eq_block}
use Rattle.block.specs.Group.{blocks}
use Rattle.plan.specs.Plan.{leaky}
use Rattle.flaand_hash.specs.Laws.{zero_at}
use Rattle.flaand_hash.proofs.zero_at.Goals as goal

pub overflow_mul-t : goal.overflow_mul-t
overflow_mul-t c = omega (arith, in-chunks c.args.t (leaky c.args.f.l) 16 c.requires.t_bound.0)

pub load-requires : goal.load-requires
load-requires c = omega (arith, in-chunks c.args.t (leaky c.args.f.l) 16 c.requires.t_bound.0)

pub returns : goal.returns
unfolding zero_at
returns c = c.equals.ensures ∙ ap₂ eq_block (c.xor-sum.ensures ∙ ap₂ blocks.op c.load.ensures c.h_sum.ensures) c.zero.ensures
