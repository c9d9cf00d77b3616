-- `vectors::replay_all` is safe and ends.
use Rattle.std.proofs.Common.{◌≤◌}
use Rattle.vectors.proofs.replay_all.Given as goal

abbrev pub invariant-loop-q : goal.invariant-loop-q
invariant-loop-q g l = l.at ≤ 2000000000
