-- The loop's invariant: the entries of the first k parties are written. The other sections are as they were.
use Rattle.std.specs.Prelude.{◌-◌, ◌≤◌}
use Rattle.triples.specs.RowLaws.{Going}
use Rattle.triples.proofs.put_row.Given as goal

abbrev pub invariant-loop-k : goal.invariant-loop-k
invariant-loop-k l = Going l.f l.delta.0 l.initial.work l.j l.row l.k l.work
