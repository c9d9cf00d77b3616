-- `plan::r_blocks` meets its contract.
use Rattle.lists.specs.Kit.{refl, arith}
use Rattle.plan.specs.Plan.{r_blocks}
use Rattle.plan.specs.PlanLaws.{bits_most}
use Rattle.plan.proofs.r_blocks.Goals as goal

pub overflow_add-result : goal.overflow_add-result
overflow_add-result c = rw c.bits_count.ensures (omega (arith, bits_most c.args.l c.requires))

pub returns : goal.returns
unfolding r_blocks
returns c = rw c.bits_count.ensures refl
