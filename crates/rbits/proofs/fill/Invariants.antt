-- The loop's invariant: the first k tables are written.
use Rattle.std.specs.Prelude.{◌+◌, ◌*◌}
use Rattle.lists.specs.Over.{Written}
use Rattle.rbits.specs.Tables.{record_block, table4}
use Rattle.rbits.proofs.fill.Given as goal

abbrev pub invariant-loop-k : goal.invariant-loop-k
invariant-loop-k l = Written (λ k'. table4 (λ e. record_block l.s l.stride l.at l.count (l.first + (k' * 4 + e)))) l.k (l.k * 32) l.initial.out l.out
