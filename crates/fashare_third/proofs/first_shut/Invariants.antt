-- The loop's invariant: the walk stands before dm q, and those before open their commitments.
use Rattle.fashare_third.specs.Laws.{Opened}
use Rattle.fashare_third.proofs.first_shut.Given as goal

abbrev pub invariant-loop-q : goal.invariant-loop-q
invariant-loop-q l = Opened l.comms l.m l.k l.q l.at
