use Rattle.std.specs.Prelude.{◌≡◌, ◌++◌, ◌+◌}
use Rattle.lists.specs.Kit.{length, get_or, drop, replicate}
use Rattle.lists.specs.Over.{tab}
use Rattle.blake3.specs.Firsts.{firsts}
use Rattle.blake3.proofs.gathered.Given as goal

abbrev pub invariant-loop-i : goal.invariant-loop-i
invariant-loop-i l = (l.b ≡ tab l.i (λ j. get_or (firsts l.stride l.s) (l.from + j) 0) ++ drop l.i (replicate 1024 0)) × (length l.b ≡ 1024)
