use Rattle.std.specs.Prelude.{◌≡◌, ◌≤◌}
use Rattle.blake3_node.specs.Node as N
use Rattle.blake3_node.proofs.chunk.Given as goal

abbrev pub invariant-loop-k : goal.invariant-loop-k
invariant-loop-k l = (l.h ≡ N.after l.k l.s l.t) × (l.d ≡ N.start_flag l.k) × (l.d ≤ 1)
