-- The loop's invariant: the hashes of the first t Blocks stand in front.
use Rattle.std.specs.Prelude.{◌*◌}
use Rattle.lists.specs.Over.{Written}
use Rattle.blake3_lanes.specs.Lanes.{hash_at}
use Rattle.blake3_lanes.proofs.hash_window.Given as goal

abbrev pub invariant-loop-t : goal.invariant-loop-t
invariant-loop-t l = Written (hash_at l.blocks) l.t (l.t * 32) l.initial.out l.out
