use Rattle.std.specs.Prelude.{◌≡◌, ◌++◌, ◌+◌}
use Rattle.lists.specs.Kit.{List, ℕ, get_or, drop}
use lib.Bits.{bit_or, bit_xor}
use Rattle.lists.specs.Over.{tab}
use Rattle.records.proofs.or_apart.Given as goal

abbrev pub both : List ℕ → List ℕ → ℕ → List ℕ → ℕ → ℕ
both e s at due k = bit_or (get_or e k 0) (bit_xor (get_or s (at + k) 0) (get_or due k 0))

abbrev pub invariant-loop-k : goal.invariant-loop-k
invariant-loop-k l = l.all ≡ tab l.k (both l.initial.all l.s l.at l.due) ++ drop l.k l.initial.all
