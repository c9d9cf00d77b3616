-- The loop's invariant: the first e bits are written.
use Rattle.std.specs.Prelude.{◌≡◌, ◌++◌, ◌+◌, ◌-◌, ◌≤◌}
use Rattle.lists.specs.Kit.{List, ℕ, length, drop}
use Rattle.lists.specs.Over.{tab}
use Rattle.algebra.specs.Group.{num}
use Rattle.engine.specs.declared.Frame.{Frame}
use Rattle.rounds.specs.declared.Mail.{Mail}
use Rattle.rounds.specs.Mail.{letter}
use Rattle.rounds.specs.Buckets.{d_opened}
use Rattle.dvalue_recv.proofs.put_ds.Given as goal

-- bit e
abbrev pub bit : List ℕ → List ℕ → List ℕ → Mail → Frame → ℕ → ℕ → ℕ
bit recs perm incoming mail f j e = num (d_opened f recs perm (letter incoming mail) j e)

abbrev pub invariant-loop-e : goal.invariant-loop-e
invariant-loop-e l = (length l.row ≡ length l.initial.row) × (l.row ≡ tab l.e (bit l.recs l.perm l.incoming l.mail l.f l.j) ++ drop l.e
    l.initial.row)
