-- The loop's invariant: both sums have the first k parties.
use Rattle.std.specs.Prelude.{◌≡◌}
use Rattle.algebra.specs.Group.{bits}
use Rattle.algebra.specs.Sum.{others}
use Rattle.block.specs.Group.{blocks}
use Rattle.haand_hash.specs.Window.{g_at, h_at}
use Rattle.haand_recv.proofs.sums.Given as goal

abbrev pub invariant-loop-k : goal.invariant-loop-k
invariant-loop-k l = (l.g ≡ others blocks l.f.i l.k (g_at l.f.i l.hashes)) × (l.h ≡ others bits l.f.i l.k (h_at l.f.i l.hashes))
