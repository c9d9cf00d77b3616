-- `plan::bucket_size` meets its contract.
use Rattle.lists.specs.Kit.{refl, arith}
use borrow.Author.Tests.{le-leb, lt-leb}
use Rattle.plan.specs.Plan.{bucket_size}
use Rattle.plan.proofs.bucket_size.Goals as goal

pub returns-then-l-ge280000 : goal.returns-then-l-ge280000
unfolding bucket_size
returns-then-l-ge280000 c = rw (le-leb 280000 c.args.l (omega arith)) refl

pub returns-then-l-ge3100 : goal.returns-then-l-ge3100
unfolding bucket_size
returns-then-l-ge3100 c = rw (lt-leb 280000 c.args.l (omega arith), le-leb 3100 c.args.l (omega arith)) refl

pub returns-else-l-ge3100 : goal.returns-else-l-ge3100
unfolding bucket_size
returns-else-l-ge3100 c = rw (lt-leb 280000 c.args.l (omega arith), lt-leb 3100 c.args.l (omega arith)) refl
