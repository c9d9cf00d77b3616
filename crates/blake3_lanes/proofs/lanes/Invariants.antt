-- The loop's invariant: the digests of the first t lanes stand in front.
use Rattle.std.specs.Prelude.{◌≡◌, ◌++◌}
use Rattle.lists.specs.Kit.{get_or, drop}
use Rattle.lists.specs.Over.{tab}
use Rattle.blake3_lanes.specs.Lanes.{no_words, digest_of}
use Rattle.blake3_lanes.proofs.lanes.Given as goal

abbrev pub invariant-loop-t : goal.invariant-loop-t
invariant-loop-t l = l.ds ≡ tab l.t (λ k. digest_of (get_or l.ms k no_words)) ++ drop l.t l.initial.ds
