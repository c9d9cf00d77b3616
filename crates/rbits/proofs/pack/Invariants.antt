-- The loop's invariant: w has the first e bits.
use Rattle.std.specs.Prelude.{◌≡◌, ◌+◌}
use Rattle.rbits.specs.Tables.{record_bit, packed}
use Rattle.rbits.proofs.pack.Given as goal

abbrev pub invariant-loop-e : goal.invariant-loop-e
invariant-loop-e l = l.w ≡ packed l.e (λ e'. record_bit l.s l.stride l.count (l.first + e'))
