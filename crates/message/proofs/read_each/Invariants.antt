use Rattle.std.specs.Prelude.{◌≡◌}
use Rattle.message.specs.FormatLaws.{inners_due}
use Rattle.message.proofs.Walk.{Walked}
use Rattle.message.proofs.read_each.Given as goal

abbrev pub invariant-loop-t : goal.invariant-loop-t
invariant-loop-t l = Walked l.kind l.m l.t l.pos × (l.inner ≡ inners_due l.kind l.t l.m)
