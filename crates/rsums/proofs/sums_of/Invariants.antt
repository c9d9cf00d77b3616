-- The loop's invariant: all sums over the first g groups; and behind the first of a window's two groups, the window.
use Rattle.std.specs.Prelude.{◌*◌}
use Rattle.draw.specs.Strings.{strings}
use Rattle.rsums.specs.SumsLaws.{Grouped}
use Rattle.rsums.proofs.sums_of.Given as goal

abbrev pub invariant-loop-g : goal.invariant-loop-g
invariant-loop-g l = Grouped l.n l.i l.s (strings (120 * l.blocks) l.r) (16 * l.blocks) l.count l.g l.bits l.macs l.keys l.win
