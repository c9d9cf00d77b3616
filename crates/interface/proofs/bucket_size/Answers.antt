use Rattle.lists.specs.Kit.{refl, arith}
use Rattle.interface.specs.Interface.{bucket_of}
use Rattle.interface.specs.InterfaceLaws.{bucket-small}
use Rattle.interface.proofs.bucket_size.Goals as goal

pub overflow_cast-result : goal.overflow_cast-result
overflow_cast-result c = omega (arith, c.bucket_size.ensures, bucket-small c.args.l)

pub returns-then-l : goal.returns-then-l
unfolding bucket_of
returns-then-l c = rw c.if-l.true c.bucket_size.ensures

pub returns-else-l : goal.returns-else-l
unfolding bucket_of
returns-else-l c = rw c.if-l.false refl
