-- The loop's invariant: the rows of the first t positions are kept. MASKS and BITS are as they were.
use Rattle.std.specs.Prelude.{◌≡◌, ◌-◌, ◌*◌, ◌≤◌}
use Rattle.lists.specs.Kit.{length}
use Rattle.plan.specs.Plan.{leaky}
use Rattle.rounds.specs.Area.{MASKS, BITS, ZS, SECTIONS, size_of, at}
use Rattle.rounds.specs.Mail.{letter}
use Rattle.rounds.specs.Loops.{Keeping}
use Rattle.rounds.specs.Haand as R
use Rattle.haand_recv.proofs.keep.Given as goal

abbrev pub invariant-loop-t : goal.invariant-loop-t
invariant-loop-t l = (l.t ≤ leaky l.f.l) × (length l.made ≡ 1088)
    × Keeping (size_of l.f) SECTIONS ZS (R.z_row l.f (at l.f MASKS l.initial.work) (at l.f BITS l.initial.work) (letter l.incoming l.mail)) l.t (l.t * 17) l.initial.work l.work

abbrev pub decreases-loop-t : goal.decreases-loop-t
decreases-loop-t l = leaky l.f.l - l.t
