-- The loop's invariant: the rows of the first t positions are kept. BITS is as it was.
use Rattle.std.specs.Prelude.{◌≡◌, ◌-◌, ◌*◌, ◌≤◌}
use Rattle.lists.specs.Kit.{length}
use Rattle.plan.specs.Plan.{leaky}
use Rattle.rounds.specs.Area.{BITS, LEAKY, SECTIONS, leaky_len, size_of, at}
use Rattle.rounds.specs.Loops.{Keeping}
use Rattle.rounds.specs.Table as Table
use Rattle.rounds.specs.Haand as R
use Rattle.haand_rows.proofs.hold.Given as goal

abbrev pub invariant-loop-t : goal.invariant-loop-t
invariant-loop-t l = (l.t ≤ leaky l.f.l) × (length l.made ≡ 2176)
    × Keeping (size_of l.f) SECTIONS LEAKY (R.leaky_row l.f (Table.delta l.f l.initial.work) (at l.f BITS l.initial.work)) l.t
    (l.t * leaky_len l.f.n) l.initial.work l.work

abbrev pub decreases-loop-t : goal.decreases-loop-t
decreases-loop-t l = leaky l.f.l - l.t
