-- The loop's invariant: ok says whether the first e MACs are right.
use Rattle.std.specs.Prelude.{◌≡◌, ◌-◌, ◌≤◌}
use Rattle.lists.specs.All.{all_of}
use Rattle.dvalue_recv.specs.Checks.{d_holds}
use Rattle.dvalue_recv.proofs.bucket_holds.Given as goal

abbrev pub invariant-loop-e : goal.invariant-loop-e
invariant-loop-e l = (l.ok ≡ all_of l.e (d_holds l.f l.delta.0 l.recs l.perm l.m l.k l.j))
