-- `plan::r_len` meets its contract.
use Rattle.lists.specs.Kit.{refl, arith}
use Rattle.plan.specs.Plan.{r_len}
use Rattle.plan.specs.PlanLaws.{r-blocks-most}
use Rattle.plan.proofs.r_len.Goals as goal

pub overflow_mul-result : goal.overflow_mul-result
overflow_mul-result c = rw c.r_blocks.ensures (omega (arith, r-blocks-most c.args.l c.requires))

pub overflow_mul-result-2 : goal.overflow_mul-result-2
overflow_mul-result-2 c = rw c.r_blocks.ensures (omega (arith, r-blocks-most c.args.l c.requires))

pub returns : goal.returns
unfolding r_len
returns c = rw c.r_blocks.ensures refl
