use Rattle.lists.specs.Kit.{arith, get_or}
use lib.Count.{ones}
use Rattle.algebra.specs.Group.{odd, num}
use Rattle.rbits.specs.LoopLaws.{filled_zero, filled-turn, filled-end}
use Rattle.rbits.specs.DigitLaws.{num-mod}
use Rattle.rbits.proofs.parities.Goals as goal

pub loop-j-init : goal.loop-j-init
loop-j-init c = filled_zero _ _

pub loop-j-preserved : goal.loop-j-preserved
loop-j-preserved c =
    filled-turn _ c.loop-j.j _ c.loop-j.out _ c.loop-j.invariant (num-mod (ones (get_or c.args.acc.now c.loop-j.j 0))) (omega arith)

pub returns : goal.returns
returns c =
    filled-end (λ j. num (odd (ones (get_or c.args.acc.now j 0)))) c.loop-j.j 120 _ c.loop-j.out c.loop-j.invariant
    (omega arith) (omega arith)
