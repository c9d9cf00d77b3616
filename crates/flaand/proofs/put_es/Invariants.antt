-- The loop's invariant: the first t bits are written.
use Rattle.std.specs.Prelude.{◌≡◌, ◌++◌, ◌+◌, ◌*◌}
use Rattle.lists.specs.Kit.{List, ℕ, length, get_or, drop}
use Rattle.lists.specs.Over.{tab}
use Rattle.algebra.specs.Group.{odd, num}
use Rattle.flaand.proofs.put_es.Given as goal

-- bit t
abbrev pub bit : List ℕ → ℕ → ℕ
bit m t = num (odd (get_or m (8 + t * 17) 0))

abbrev pub invariant-loop-t : goal.invariant-loop-t
invariant-loop-t l = (length l.row ≡ length l.initial.row) × (l.row ≡ tab l.t (bit l.m) ++ drop l.t l.initial.row)
