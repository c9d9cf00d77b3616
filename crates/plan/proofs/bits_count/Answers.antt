-- `plan::bits_count` meets its contract.
use Rattle.lists.specs.Kit.{refl, arith}
use Rattle.plan.specs.Plan.{bits_count}
use Rattle.plan.specs.PlanLaws.{leaky-most}
use Rattle.plan.proofs.bits_count.Goals as goal

pub overflow_mul-result : goal.overflow_mul-result
overflow_mul-result c = rw c.leaky.ensures (omega (arith, leaky-most c.args.l c.requires))

pub overflow_add-result : goal.overflow_add-result
overflow_add-result c = rw c.leaky.ensures (omega (arith, leaky-most c.args.l c.requires))

pub returns : goal.returns
unfolding bits_count
returns c = rw c.leaky.ensures refl
