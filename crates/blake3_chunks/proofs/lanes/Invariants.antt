-- The loop's invariant: what the first j lanes give stands in front.
use Rattle.std.specs.Prelude.{◌≡◌, ◌++◌}
use Rattle.lists.specs.Kit.{get_or, drop}
use Rattle.lists.specs.Over.{tab}
use Rattle.blake3_chunks.specs.Chunks.{no_node, chunk_of, pressed}
use Rattle.blake3_chunks.proofs.lanes.Given as goal

abbrev pub invariant-loop-j : goal.invariant-loop-j
invariant-loop-j l =
    l.ds ≡ tab l.j (λ i. pressed (get_or l.hs i no_node) (chunk_of l.s i) l.k (get_or l.lows i 0) (get_or l.highs i 0) l.f)
    ++ drop l.j l.initial.ds
