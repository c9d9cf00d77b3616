-- The loop's invariant: the rows of the first j buckets are kept. The other sections are as they were.
use Rattle.std.specs.Prelude.{◌-◌, ◌*◌, ◌≤◌}
use Rattle.share.specs.Layout.{record_len}
use Rattle.rounds.specs.Area.{TRIPLES}
use Rattle.area.specs.Filled.{Filled}
use Rattle.triples.specs.Laws.{row_of}
use Rattle.triples.proofs.hold.Given as goal

abbrev pub invariant-loop-j : goal.invariant-loop-j
invariant-loop-j l = Filled l.f TRIPLES (2 * record_len l.f.n) (row_of l.f l.delta.0 l.initial.work) l.j l.initial.work l.work
