-- The loop's invariant: the first k rows are written, whatever names them.
use Rattle.std.specs.Prelude.{List, ℕ, ◌*◌, ◌<◌}
use Rattle.lists.specs.Over.{Written}
use Rattle.lists.specs.Calls.{LeavesRow}
use Rattle.lists.proofs.write_rows.Given as goal

abbrev pub invariant-loop-k : goal.invariant-loop-k
invariant-loop-k g l =
    (r : ℕ → List ℕ) → ((k : ℕ) → k < l.count → LeavesRow g.F.Fn l.put l.len k (r k)) → Written r l.k (l.k * l.len) l.initial.out l.out
