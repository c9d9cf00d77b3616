use Rattle.std.specs.Prelude.{◌-◌}
use Rattle.lists.specs.Kit.{ap, arith}
use Rattle.plan.specs.PlanLaws.{bucket-low}
use Rattle.rounds.specs.Buckets.{later}
use Rattle.buckets.proofs.later.Goals as goal

pub overflow_sub-result : goal.overflow_sub-result
overflow_sub-result c = omega (arith, c.bucket_size.ensures, bucket-low c.args.f.l)

pub returns : goal.returns
unfolding later
returns c = ap (λ b. b - 1) c.bucket_size.ensures
