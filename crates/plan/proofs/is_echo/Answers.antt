-- `plan::is_echo` meets its contract.
use Rattle.plan.specs.PlanLaws.{echo-tests}
use Rattle.plan.proofs.is_echo.Goals as goal

pub returns : goal.returns
returns c = echo-tests c.args.k
