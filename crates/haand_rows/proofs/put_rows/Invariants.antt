-- The loop's invariant: the rows of the first p positions are written.
use Rattle.std.specs.Prelude.{◌+◌, ◌-◌, ◌*◌, ◌≤◌}
use Rattle.lists.specs.Over.{Written}
use Rattle.rounds.specs.Area.{leaky_len}
use Rattle.rounds.specs.Haand as R
use Rattle.haand_rows.proofs.put_rows.Given as goal

abbrev pub invariant-loop-p : goal.invariant-loop-p
invariant-loop-p l = Written (λ p'. R.leaky_row l.f l.delta.0 l.recs (l.t + p')) l.p
    (l.p * leaky_len l.f.n) l.initial.out l.out
