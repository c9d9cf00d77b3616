use Rattle.std.specs.Prelude.{◌≡◌, ◌+◌}
use Rattle.lists.specs.Kit.{false, length}
use Rattle.lists.specs.Kit.{replicate}
use Rattle.share.specs.Layout.{ENTRY, mac_off}
use Rattle.share.specs.Lent.{LABEL, lent_head}
use Rattle.records.specs.Seen.{Shown}
use Rattle.records.proofs.none_faulty.Given as goal

abbrev pub invariant-loop-t : goal.invariant-loop-t
invariant-loop-t l = (length l.heads ≡ 1 + LABEL) × (length l.e ≡ ENTRY) × Shown l.n l.s 0 (lent_head l.n l.i false) l.t l.heads
    × Shown l.n l.s (LABEL + mac_off l.i) (replicate ENTRY 0) l.t l.e
