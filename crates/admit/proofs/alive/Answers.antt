-- `admit::alive` meets its contract.
use Rattle.std.specs.Prelude.{◌&&◌}
use Rattle.lists.specs.Kit.{ap₂}
use Rattle.admit.proofs.alive.Goals as goal

pub returns : goal.returns
returns c = ap₂ ◌&&◌ (ap₂ ◌&&◌ c.fine.ensures c.are_whole.ensures) c.is_round.ensures
