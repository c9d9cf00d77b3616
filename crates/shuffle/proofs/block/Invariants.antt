use Rattle.shuffle.specs.Turns.{Taken}
use Rattle.shuffle.proofs.block.Given as goal

abbrev pub invariant-loop-v : goal.invariant-loop-v
invariant-loop-v l = Taken l.initial.section l.v-items l.initial.at l.section l.at l.v-index
