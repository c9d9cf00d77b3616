-- The loop's invariant: the first e entries are written.
use Rattle.std.specs.Prelude.{◌≡◌, ◌++◌}
use Rattle.lists.specs.Kit.{drop, replicate}
use Rattle.lists.specs.Over.{tab}
use Rattle.rounds.specs.Buckets.{entry}
use Rattle.buckets.proofs.entries.Given as goal

abbrev pub invariant-loop-e : goal.invariant-loop-e
invariant-loop-e l = l.ts ≡ tab l.e (entry l.f l.perm l.j) ++ drop l.e (replicate 5 0)
