-- The loop's invariant: the count and the items of the first j buckets are written.
use Rattle.std.specs.Prelude.{◌≡◌, ◌+◌, ◌-◌, ◌*◌, ◌≤◌}
use Rattle.lists.specs.Kit.{length}
use Rattle.encode.specs.Stretch.{Stretch}
use Rattle.faand.specs.ItemLaws.{told, item}
use Rattle.faand.proofs.put_message.Given as goal

abbrev pub invariant-loop-j : goal.invariant-loop-j
invariant-loop-j l = (length l.initial.out ≡ told l.f) × Stretch l.f.l (item l.f l.work l.k) l.j (8 + l.j * 34) l.initial.out l.out
