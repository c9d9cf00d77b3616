use Rattle.std.specs.Prelude.{◌≡◌}
use Rattle.engine.specs.Step.{scan}
use Rattle.rounds.specs.EchoLaws.{told_fault}
use Rattle.echo.proofs.check_echo.Given as goal

abbrev pub invariant-loop-k : goal.invariant-loop-k
invariant-loop-k l = (scan l.k (told_fault l.f.i l.j l.hashes l.m)).code ≡ 0
