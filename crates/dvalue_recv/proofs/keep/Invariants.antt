-- The loop's invariant: the rows of the first j buckets are kept. The other sections are as they were.
use Rattle.std.specs.Prelude.{◌-◌, ◌≤◌}
use Rattle.rounds.specs.Area.{BITS, PERM, DS, at}
use Rattle.rounds.specs.Mail.{letter}
use Rattle.rounds.specs.Buckets.{later}
use Rattle.area.specs.Filled.{Filled}
use Rattle.dvalue_recv.specs.Opened.{d_row}
use Rattle.dvalue_recv.proofs.keep.Given as goal

abbrev pub invariant-loop-j : goal.invariant-loop-j
invariant-loop-j l = Filled l.f DS (later l.f) (d_row l.f (at l.f BITS l.initial.work) (at l.f PERM l.initial.work)
    (letter l.incoming l.mail)) l.j l.initial.work l.work
