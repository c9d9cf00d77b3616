-- The loop's invariant: the first i parts are written.
use Rattle.std.specs.Prelude.{◌≡◌, ◌++◌, ◌*◌}
use Rattle.lists.specs.Kit.{length, drop}
use Rattle.lists.specs.Over.{tab}
use Rattle.aes_counter.specs.Starts.{start_at}
use Rattle.aes_counter.proofs.starts.Given as goal

abbrev pub invariant-loop-i : goal.invariant-loop-i
invariant-loop-i l =
    (length l.out ≡ 1536) × (l.out ≡ tab (l.i * 2) (start_at l.key.tables.words l.key.words) ++ drop (l.i * 2) l.initial.out)
