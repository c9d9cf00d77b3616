-- `batches::place` meets its contract.
use Rattle.lists.specs.Kit.{arith}
use Rattle.lists.specs.Pick.{tests}
use Rattle.batches.proofs.place.Goals as goal

pub returns-then-count-eq0 : goal.returns-then-count-eq0
returns-then-count-eq0 c = search (arith, tests)

pub returns-else-count-eq0 : goal.returns-else-count-eq0
returns-else-count-eq0 c = search (arith, tests)
