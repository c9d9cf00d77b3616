use Rattle.share.specs.Share.{entry_of}
use Rattle.share.specs.Lent.{lent_at}
use Rattle.share.specs.Entered.{Entered}
use Rattle.share.proofs.keep_record.Given as goal

abbrev pub invariant-loop-k : goal.invariant-loop-k
invariant-loop-k l = Entered (entry_of l.i (lent_at l.s l.at)) l.n l.k l.initial.out l.out
