use Rattle.message.proofs.Walk.{Walked}
use Rattle.message.proofs.item_at.Given as goal

abbrev pub invariant-loop-k : goal.invariant-loop-k
invariant-loop-k l = Walked l.kind l.m l.k l.pos
