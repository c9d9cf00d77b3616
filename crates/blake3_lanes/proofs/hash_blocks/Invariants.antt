-- The invariant of both loops: the hashes of the first Blocks stand in front, w windows of 64 and then t of them.
use Rattle.std.specs.Prelude.{◌*◌}
use Rattle.lists.specs.Over.{Written}
use Rattle.blake3_lanes.specs.Lanes.{hash_at}
use Rattle.blake3_lanes.proofs.hash_blocks.Given as goal

abbrev pub invariant-loop-w : goal.invariant-loop-w
invariant-loop-w l = Written (hash_at l.blocks) (l.w * 64) (l.w * 64 * 32) l.initial.out l.out

abbrev pub invariant-loop-t : goal.invariant-loop-t
invariant-loop-t l = Written (hash_at l.blocks) l.t (l.t * 32) l.initial.out l.out
