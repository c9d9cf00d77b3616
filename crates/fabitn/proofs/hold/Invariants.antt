-- The loop's invariant: the rows of the first k parties are kept.
use Rattle.std.specs.Prelude.{◌-◌, ◌≤◌}
use Rattle.rounds.specs.Area.{KEY_SUMS}
use Rattle.rounds.specs.Fabitn.{ROW}
use Rattle.rounds.specs.Loops.{row_of}
use Rattle.area.specs.Filled.{Filled}
use Rattle.fabitn.specs.Rows.{held_row}
use Rattle.fabitn.proofs.hold.Given as goal

abbrev pub invariant-loop-k : goal.invariant-loop-k
invariant-loop-k l = Filled l.f KEY_SUMS ROW (row_of l.f.i ROW (held_row l.f.i l.keys)) l.k l.initial.work l.work
