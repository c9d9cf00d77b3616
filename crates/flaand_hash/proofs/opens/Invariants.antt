-- The loop's invariant: ok says whether the h of the first q windows open.
use Rattle.std.specs.Prelude.{◌≡◌, ◌*◌, min}
use Rattle.lists.specs.All.{all_of}
use Rattle.flaand_hash.specs.Laws.{opens_at}
use Rattle.flaand_hash.proofs.opens.Given as goal

abbrev pub invariant-loop-q : goal.invariant-loop-q
invariant-loop-q l = l.ok ≡ all_of (min (l.q * 64) l.count) (opens_at l.count l.comms l.k l.m)
