-- `plan::other` meets its contract.
use Rattle.lists.specs.Kit.{arith}
use Rattle.lists.specs.Pick.{tests}
use Rattle.engine.specs.Area.{nth}
use Rattle.plan.proofs.other.Goals as goal

pub returns-then-q-i : goal.returns-then-q-i
unfolding nth
returns-then-q-i c = search (arith, tests)

pub returns-else-q-i : goal.returns-else-q-i
unfolding nth
returns-else-q-i c = search (arith, tests)
