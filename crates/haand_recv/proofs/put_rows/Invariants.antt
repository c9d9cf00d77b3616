-- The loop's invariant: the rows of the first p positions are written.
use Rattle.std.specs.Prelude.{◌+◌, ◌-◌, ◌*◌, ◌≤◌}
use Rattle.lists.specs.Over.{Written}
use Rattle.rounds.specs.Mail.{letter}
use Rattle.rounds.specs.Haand as R
use Rattle.haand_recv.proofs.put_rows.Given as goal

abbrev pub invariant-loop-p : goal.invariant-loop-p
invariant-loop-p l = Written (λ p'. R.z_row l.f l.masks l.recs (letter l.incoming l.mail) (l.t + p')) l.p (l.p * 17) l.initial.out l.out
