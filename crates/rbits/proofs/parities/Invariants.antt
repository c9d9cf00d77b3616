-- The loop's invariant: the bits of the first j strings are written.
use Rattle.lists.specs.Kit.{get_or}
use lib.Count.{ones}
use Rattle.algebra.specs.Group.{odd, num}
use Rattle.rbits.specs.LoopLaws.{Filled}
use Rattle.rbits.proofs.parities.Given as goal

abbrev pub invariant-loop-j : goal.invariant-loop-j
invariant-loop-j l = Filled (λ j'. num (odd (ones (get_or l.acc j' 0)))) l.j l.initial.out l.out
