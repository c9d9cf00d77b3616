-- The loop's invariant: a and b, and c and d, are the words of the sums of the first k entries.
use Rattle.std.specs.Prelude.{◌≡◌}
use Rattle.algebra.specs.Sum.{sum}
use Rattle.block.specs.Group.{blocks}
use Rattle.rbits.specs.Tables.{entry}
use Rattle.rpairs.proofs.choose_two.Given as goal

abbrev pub invariant-loop-k : goal.invariant-loop-k
invariant-loop-k l = (record { 0 = l.a; 1 = l.b } ≡ sum blocks l.k (entry l.t l.w)) × (record { 0 = l.c; 1 = l.d } ≡ sum blocks l.k (entry l.u l.w))
