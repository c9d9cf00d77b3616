use Rattle.shuffle.specs.Turns.{size, Blocks}
use Rattle.shuffle.proofs.draw.Given as goal

abbrev pub invariant-loop-at : goal.invariant-loop-at
invariant-loop-at l = Blocks l.key 0 l.initial.section l.initial.at l.section l.at l.counter

abbrev pub decreases-loop-at : goal.decreases-loop-at
decreases-loop-at l = size l.at
