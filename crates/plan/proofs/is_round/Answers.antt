-- `plan::is_round` meets its contract.
use Rattle.lists.specs.Kit.{refl}
use Rattle.engine.specs.Order.{round_in}
use Rattle.plan.proofs.is_round.Goals as goal

pub returns : goal.returns
unfolding round_in
returns c = rw c.is_echo.ensures refl
