use Rattle.std.specs.Prelude.{◌+◌, ◌*◌}
use Rattle.message.specs.declared.Kind.TheVariants.{Items}
use Rattle.message.proofs.Walk.{Walked}
use Rattle.message.proofs.read_items.Given as goal

abbrev pub invariant-loop-k : goal.invariant-loop-k
invariant-loop-k l = Walked (Items l.size l.flags) l.m l.k (8 + l.k * l.size)
