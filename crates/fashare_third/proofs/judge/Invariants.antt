-- The loop's invariant: of the first k parties' messages, the lowest string with a fault, and the lowest party in it.
use Rattle.rounds.specs.Mail.{letter}
use Rattle.fashare_third.specs.Laws.{third_at, Lowest}
use Rattle.fashare_third.proofs.judge.Given as goal

abbrev pub invariant-loop-k : goal.invariant-loop-k
invariant-loop-k l = Lowest (third_at l.f l.comms (letter l.incoming l.mail)) l.k l.most l.verdict
