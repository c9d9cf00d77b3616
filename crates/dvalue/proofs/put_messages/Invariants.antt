-- The loop's invariant: the messages to the first q parties but i are written.
use Rattle.std.specs.Prelude.{◌-◌, ◌≤◌}
use Rattle.rounds.specs.Loops.{Sent}
use Rattle.rounds.specs.Buckets.{dvalue_msg}
use Rattle.dvalue.proofs.put_messages.Given as goal

abbrev pub invariant-loop-q : goal.invariant-loop-q
invariant-loop-q l = Sent l.f.n l.f.i l.len (dvalue_msg l.f l.recs l.perm) l.q l.initial.out l.out
