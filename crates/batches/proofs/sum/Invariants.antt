-- The sum so far is of the counts before, and below their number times 2^32.
use Rattle.std.specs.Prelude.{◌≡◌, ◌*◌, ◌≤◌}
use Rattle.batches.specs.Batches.{first}
use Rattle.batches.proofs.sum.Given as goal

abbrev pub invariant-loop-count : goal.invariant-loop-count
invariant-loop-count l = (l.l ≡ first l.count-index l.counts) × (l.l ≤ l.count-index * 4294967295)
