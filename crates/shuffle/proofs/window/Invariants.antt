use Rattle.shuffle.specs.Turns.{Blocks}
use Rattle.shuffle.proofs.window.Given as goal

abbrev pub invariant-loop-lane : goal.invariant-loop-lane
invariant-loop-lane l = Blocks l.key l.counter l.initial.section l.initial.at l.section l.at l.lane-index
