-- The loop's invariant: the first i entries are written.
use Rattle.std.specs.Prelude.{◌≡◌, ◌++◌}
use Rattle.lists.specs.Kit.{ℕ, length, drop}
use Prim.Native.Nat.{◌/◌, ◌%◌}
use Rattle.lists.specs.Over.{tab}
use Rattle.fips197.specs.Sbox.{SBox}
use Rattle.aes_tables.specs.Tables.{entry_of}
use Rattle.aes_tables.proofs.Tables.new.Given as goal

abbrev pub at : ℕ → ℕ
at i = entry_of (i / 256) (SBox (i % 256))

abbrev pub invariant-loop-i : goal.invariant-loop-i
invariant-loop-i l = (l.words ≡ tab l.i at ++ drop l.i l.initial.words) × (length l.words ≡ 1280)
