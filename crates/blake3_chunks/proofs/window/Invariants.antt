-- The loop's invariant: each lane has taken the first k blocks of its chunk.
use Rattle.std.specs.Prelude.{◌≡◌}
use Rattle.lists.specs.Over.{tab}
use Rattle.blake3_node.specs.Node.{start_flag}
use Rattle.blake3_chunks.specs.ChunkLaws.{before}
use Rattle.blake3_chunks.proofs.window.Given as goal

abbrev pub invariant-loop-k : goal.invariant-loop-k
invariant-loop-k l = (l.hs ≡ tab 4 (before l.s l.t l.k)) × (l.d ≡ start_flag l.k)
