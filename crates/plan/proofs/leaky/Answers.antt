-- `plan::leaky` meets its contract.
use Rattle.lists.specs.Kit.{refl, arith}
use Rattle.plan.specs.Plan.{leaky}
use Rattle.plan.specs.PlanLaws.{leaky-most}
use Rattle.plan.proofs.leaky.Goals as goal

pub overflow_mul-result : goal.overflow_mul-result
unfolding leaky
overflow_mul-result c = rw c.bucket_size.ensures (omega (arith, leaky-most c.args.l c.requires))

pub returns : goal.returns
unfolding leaky
returns c = rw c.bucket_size.ensures refl
