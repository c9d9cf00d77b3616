-- The loop's invariant: the first q strings have no fault.
use Rattle.std.specs.Prelude.{◌≡◌}
use Rattle.engine.specs.Step.{by_party}
use Rattle.rounds.specs.Area.{first_of}
use Rattle.rounds.specs.Mail.{letter}
use Rattle.rounds.specs.Fashare as Fashare
use Rattle.fashare_ver_recv.proofs.check_strings.Given as goal

abbrev pub invariant-loop-q : goal.invariant-loop-q
invariant-loop-q l = (first_of l.q (λ q'. by_party l.f (Fashare.dm_fault l.f (letter l.incoming l.mail) q'))).code ≡ 0
