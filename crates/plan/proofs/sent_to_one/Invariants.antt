-- `plan::sent_to_one` meets its contract: at turn k the sum is that of rounds 1 to k.
use Rattle.std.specs.Prelude.{◌≡◌}
use Rattle.plan.specs.Plan.{sent_up_to}
use Rattle.plan.proofs.sent_to_one.Given as goal

abbrev pub invariant-loop-k : goal.invariant-loop-k
invariant-loop-k l = l.sum ≡ sent_up_to l.n l.l l.k
