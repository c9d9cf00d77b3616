-- `area::section_at` meets its contract: at turn k the sum is where section k starts.
use Rattle.std.specs.Prelude.{◌≡◌}
use Rattle.engine.specs.Area.{off}
use Rattle.rounds.specs.Area.{size_of}
use Rattle.area.proofs.section_at.Given as goal

abbrev pub invariant-loop-k : goal.invariant-loop-k
invariant-loop-k l = l.at ≡ off (size_of l.f) l.k
