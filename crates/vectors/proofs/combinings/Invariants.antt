-- `vectors::combinings` is safe and ends.
use Rattle.std.proofs.Common.{◌≤◌}
use Rattle.vectors.proofs.combinings.Given as goal

abbrev pub invariant-loop-q : goal.invariant-loop-q
invariant-loop-q g l = l.at ≤ 2000000000
