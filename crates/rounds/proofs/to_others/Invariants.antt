-- The loop's invariant: the messages to the first q other parties are written, whatever names them.
use Rattle.std.specs.Prelude.{◌≢◌, List, ℕ, ◌*◌, ◌<◌}
use Rattle.lists.specs.Calls.{LeavesRow}
use Rattle.rounds.specs.Loops.{Sent}
use Rattle.rounds.proofs.to_others.Given as goal

abbrev pub invariant-loop-q : goal.invariant-loop-q
invariant-loop-q g l =
    (r : ℕ → List ℕ) → ((k : ℕ) → k < l.f.n → l.f.i ≢ k → LeavesRow g.F.Fn l.put l.len k (r k))
    → Sent l.f.n l.f.i l.len r l.q l.initial.out l.out
