-- The loop's invariant: the first q strings have no fault.
use Rattle.std.specs.Prelude.{◌≡◌}
use Rattle.engine.specs.Step.{by_party}
use Rattle.rounds.specs.Area.{first_of}
use Rattle.rounds.specs.Mail.{letter}
use Rattle.rounds.specs.Fashare as Fashare
use Rattle.fashare_dibi.proofs.judge.Given as goal

abbrev pub invariant-loop-q : goal.invariant-loop-q
invariant-loop-q l =
    (first_of l.q (λ q'. by_party l.f (Fashare.dibi_fault l.f l.recs l.comms l.dms (letter l.incoming l.mail) q'))).code ≡ 0
