-- The loop's invariant: a has b added to its first i bytes.
use Rattle.block.proofs.Laws.{Added}
use Rattle.block.proofs.xor_inplace.Given as goal

abbrev pub invariant-loop-i : goal.invariant-loop-i
invariant-loop-i l = Added l.initial.a l.b l.a l.i
