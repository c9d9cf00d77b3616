-- The loop's invariant: the words of the first t Blocks stand in front.
use Rattle.std.specs.Prelude.{◌≡◌, ◌++◌}
use Rattle.lists.specs.Kit.{drop}
use Rattle.lists.specs.Over.{tab}
use Rattle.blake3_lanes.specs.Lanes.{words_at}
use Rattle.blake3_lanes.proofs.gather.Given as goal

abbrev pub invariant-loop-t : goal.invariant-loop-t
invariant-loop-t l = l.ms ≡ tab l.t (words_at l.blocks) ++ drop l.t l.initial.ms
