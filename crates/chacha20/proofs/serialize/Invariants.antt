-- The loop's invariant: the bytes of the first i words stand in front.
use Rattle.std.specs.Prelude.{◌*◌}
use Rattle.lists.specs.Kit.{List, ℕ, get_or}
use Rattle.lists.specs.Over.{Written}
use Rattle.word.specs.Word.{le4}
use Rattle.chacha20.proofs.serialize.Given as goal

-- the bytes of word i
abbrev pub row : List ℕ → ℕ → List ℕ
row v i = le4 (get_or v i 0)

abbrev pub invariant-loop-i : goal.invariant-loop-i
invariant-loop-i l = Written (row l.v) l.i (l.i * 4) l.initial.out l.out
