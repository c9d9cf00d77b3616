use Rattle.lists.specs.Kit.{refl, arith}
use Rattle.lists.specs.Over.{tab-zero, tab-turn, tab-end}
use Rattle.blake3_lanes.proofs.lanes.Goals as goal

pub loop-t-init : goal.loop-t-init
loop-t-init c = tab-zero _ _

pub loop-t-preserved : goal.loop-t-preserved
loop-t-preserved c = tab-turn c.loop-t.t _ _ c.loop-t.ds _ c.loop-t.invariant c.lane.ensures c.loop-t-test.true

pub returns : goal.returns
returns c = tab-end c.loop-t.t 64 _ _ c.loop-t.ds c.loop-t.invariant (omega arith) refl
