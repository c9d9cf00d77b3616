-- The loop's invariant: ok says whether the first j buckets are right.
use Rattle.std.specs.Prelude.{◌≡◌, ◌-◌, ◌≤◌}
use Rattle.lists.specs.All.{all_of}
use Rattle.dvalue_recv.specs.Checks.{bucket_holds}
use Rattle.dvalue_recv.proofs.message_holds.Given as goal

abbrev pub invariant-loop-j : goal.invariant-loop-j
invariant-loop-j l = (l.ok ≡ all_of l.j (bucket_holds l.f l.delta.0 l.recs l.perm l.m l.k))
