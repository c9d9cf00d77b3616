-- The loop's invariant: the rows of the first k parties are written, whatever names them.
use Rattle.std.specs.Prelude.{◌≢◌, List, ℕ, ◌*◌, ◌<◌}
use Rattle.lists.specs.Over.{Written}
use Rattle.lists.specs.Calls.{LeavesRow}
use Rattle.rounds.specs.Loops.{row_of}
use Rattle.rounds.proofs.put_rows.Given as goal

abbrev pub invariant-loop-k : goal.invariant-loop-k
invariant-loop-k g l =
    (r : ℕ → List ℕ) → ((k : ℕ) → k < l.f.n → l.f.i ≢ k → LeavesRow g.F.Fn l.put l.len k (r k))
    → Written (row_of l.f.i l.len r) l.k (l.k * l.len) l.initial.section l.section
