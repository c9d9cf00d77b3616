use Rattle.std.specs.Prelude.{◌≡◌}
use Rattle.lists.specs.Kit.{length}
use Rattle.encode.specs.Stretch.{Stretch}
use Rattle.plan.specs.Plan.{msg_len}
use Rattle.rounds.specs.EchoLaws.{entry, entry_at}
use Rattle.echo.proofs.put_echo.Given as goal

abbrev pub invariant-loop-k : goal.invariant-loop-k
invariant-loop-k l = ((l.a ≡ entry_at l.f.i l.r l.hashes l.k) ×
    ((length l.initial.out ≡ msg_len l.f.n 1 2) × Stretch l.f.n (entry l.f.i l.r l.hashes) l.k l.a l.initial.out l.out))
