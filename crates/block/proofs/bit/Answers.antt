use Rattle.lists.specs.Kit.{get_or}
use Rattle.block.proofs.Laws.{test-odd}
use Rattle.block.proofs.bit.Goals as goal

pub returns : goal.returns
returns c = test-odd (get_or c.args.s.now c.args.at 0)
