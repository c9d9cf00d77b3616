-- The loop's invariant: ok says whether the MACs of the first j buckets hold.
use Rattle.std.specs.Prelude.{◌≡◌, ◌-◌, ◌≤◌}
use Rattle.lists.specs.All.{all_of}
use Rattle.faand_recv.specs.CheckLaws.{holds}
use Rattle.faand_recv.proofs.message_holds.Given as goal

abbrev pub invariant-loop-j : goal.invariant-loop-j
invariant-loop-j l = (l.ok ≡ all_of l.j (holds l.f l.delta.0 l.work l.m l.k))
