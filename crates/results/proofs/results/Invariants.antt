-- The loop's invariant: the results of the first j buckets are written.
use Rattle.std.specs.Prelude.{◌-◌, ◌*◌, ◌≤◌}
use Rattle.lists.specs.Over.{Written}
use Rattle.rounds.specs.Mail.{letter}
use Rattle.results.specs.FinishLaws.{result}
use Rattle.results.proofs.results.Given as goal

abbrev pub invariant-loop-j : goal.invariant-loop-j
invariant-loop-j l = Written (result l.f l.work (letter l.incoming l.mail)) l.j (l.j * l.len) l.initial.out l.out
