use Rattle.std.specs.Prelude.{◌-◌, ◌≤◌}
use Rattle.rounds.specs.Mail.{letter}
use Rattle.rounds.specs.TossLaws.{Tossed}
use Rattle.toss_recv.proofs.joint_seed.Given as goal

abbrev pub invariant-loop-k : goal.invariant-loop-k
invariant-loop-k l = Tossed l.f.i l.seed (letter l.incoming l.mail) l.k l.x
