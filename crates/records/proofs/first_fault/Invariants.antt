use Rattle.std.specs.Prelude.{◌≡◌}
use Rattle.share.specs.Lent.{records_fault}
use Rattle.records.proofs.first_fault.Given as goal

abbrev pub invariant-loop-t : goal.invariant-loop-t
invariant-loop-t l = records_fault l.n l.i l.s l.t ≡ 0
