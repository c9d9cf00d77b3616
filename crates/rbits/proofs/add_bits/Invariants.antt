-- The loop's invariant: the words of the first j strings have the chosen digits added.
use Rattle.rbits.specs.Tables.{masked_at}
use Rattle.rbits.specs.LoopLaws.{Filled}
use Rattle.rbits.proofs.add_bits.Given as goal

abbrev pub invariant-loop-j : goal.invariant-loop-j
invariant-loop-j l = Filled (masked_at l.initial.acc l.win l.h l.b) l.j l.initial.acc l.acc
