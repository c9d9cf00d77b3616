-- The loop's invariant: the first j strings have no fault.
use Rattle.std.specs.Prelude.{◌≡◌}
use Rattle.engine.specs.Step.{by_party}
use Rattle.rounds.specs.Area.{first_of}
use Rattle.rounds.specs.Mail.{letter}
use Rattle.rounds.specs.Fabitn as Fabitn
use Rattle.rounds.specs.Fabitn.{STRINGS}
use Rattle.fabitn_recv.proofs.judge.Given as goal

abbrev pub invariant-loop-j : goal.invariant-loop-j
invariant-loop-j l = (first_of l.j (λ j'. by_party l.f (Fabitn.abit_fault l.delta.0 l.sums (letter l.incoming l.mail) j'))).code ≡ 0
