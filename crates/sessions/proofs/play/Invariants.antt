-- The loop's invariant: a round sends at most 7,696 bytes.
use Rattle.std.proofs.Common.{◌*◌, ◌≤◌}
use Rattle.sessions.proofs.play.Given as goal

abbrev pub invariant-loop-k : goal.invariant-loop-k
invariant-loop-k g l = l.sum ≤ 7696 * l.k
