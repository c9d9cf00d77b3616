-- The loop's invariant: the words of the first 2k strings are written.
use Rattle.std.specs.Prelude.{◌*◌}
use Rattle.lists.specs.Over.{Written}
use Rattle.rbits.specs.LoopLaws.{pair_of}
use Rattle.window.specs.WindowLaws.{of_string}
use Rattle.window.proofs.Strings.window.Given as goal

abbrev pub invariant-loop-k : goal.invariant-loop-k
invariant-loop-k l = Written (pair_of (of_string l.self.r.now l.blocks l.q)) (l.k * 2) (l.k * 2 * 2) l.initial.out l.out
