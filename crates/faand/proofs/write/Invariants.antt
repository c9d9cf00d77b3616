-- The loop's invariant: the messages to the first q parties but i are written.
use Rattle.std.specs.Prelude.{◌-◌, ◌≤◌}
use Rattle.rounds.specs.Loops.{Sent}
use Rattle.faand.specs.ItemLaws.{message}
use Rattle.faand.proofs.write.Given as goal

abbrev pub invariant-loop-q : goal.invariant-loop-q
invariant-loop-q l = Sent l.f.n l.f.i l.len (message l.f l.work) l.q l.initial.out l.out
