use Rattle.lists.specs.Kit.{arith}
use Rattle.block.proofs.Laws.{added_none, added-byte, added-all}
use Rattle.block.proofs.xor_inplace.Goals as goal

pub loop-i-init : goal.loop-i-init
loop-i-init c = added_none _ _

pub loop-i-preserved : goal.loop-i-preserved
loop-i-preserved c = added-byte c.args.a.now c.args.b.now c.loop-i.a c.loop-i.i (omega arith) c.loop-i.invariant

pub returns : goal.returns
returns c = added-all c.args.a.now c.args.b.now c.loop-i.a c.loop-i.i (omega arith) c.loop-i.invariant
