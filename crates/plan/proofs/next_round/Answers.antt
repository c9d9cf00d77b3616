-- `plan::next_round` meets its contract.
use Rattle.lists.specs.Kit.{arith}
use Rattle.lists.specs.Pick.{tests}
use Rattle.engine.specs.Order.{next_in}
use Rattle.plan.specs.PlanLaws.{next-skips, next-on}
use Rattle.plan.proofs.next_round.Goals as goal

pub returns-then-k-ge-FAAND : goal.returns-then-k-ge-FAAND
unfolding next_in
returns-then-k-ge-FAAND c = search (arith, tests)

pub returns-then-n-is_echo : goal.returns-then-n-is_echo
returns-then-n-is_echo c =
    next-skips c.args.n c.args.k c.is_echo.result (omega arith) c.is_echo.ensures c.if-n-is_echo.true

pub returns-else-n-is_echo : goal.returns-else-n-is_echo
returns-else-n-is_echo c =
    next-on c.args.n c.args.k c.is_echo.result (omega arith) c.is_echo.ensures c.if-n-is_echo.false
