use Rattle.lists.specs.Kit.{arith}
use Rattle.buckets.specs.Entries.{later-most}
use Rattle.dvalue.proofs.bucket_len.Goals as goal

pub overflow_mul-result-2 : goal.overflow_mul-result-2
overflow_mul-result-2 c = omega (arith, c.later.ensures, later-most c.args.f)

pub overflow_add-result-2 : goal.overflow_add-result-2
overflow_add-result-2 c = omega (arith, c.later.ensures, later-most c.args.f)
