-- The loop's invariant: the sums of the first j strings have what is chosen added, in both lists.
use Rattle.rpairs.specs.AddedLaws.{Partly}
use Rattle.rpairs.proofs.add_two.Given as goal

abbrev pub invariant-loop-j : goal.invariant-loop-j
invariant-loop-j l = Partly l.base l.initial.x l.t l.win l.h l.j l.x × Partly l.base l.initial.y l.u l.win l.h l.j l.y
