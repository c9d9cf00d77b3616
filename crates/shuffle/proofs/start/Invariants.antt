use Rattle.std.specs.Prelude.{◌*◌}
use Rattle.lists.specs.Over.{Written}
use Rattle.word.specs.Word.{le4}
use Rattle.shuffle.proofs.start.Given as goal

abbrev pub invariant-loop-t : goal.invariant-loop-t
invariant-loop-t l = Written le4 l.t (l.t * 4) l.initial.section l.section
