-- The pairs before are in place, and `at` is behind them.
use Rattle.std.specs.Prelude.{◌≡◌}
use Rattle.batches.specs.Batches.{first}
use Rattle.batches.specs.Turns.{telling}
use Rattle.batches.proofs.pairs.Given as goal

abbrev pub invariant-loop-j : goal.invariant-loop-j
invariant-loop-j l = (l.at ≡ first l.j l.fn.counts) × (l.all ≡ telling l.fn.counts l.j)
