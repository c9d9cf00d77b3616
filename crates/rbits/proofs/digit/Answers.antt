-- A record's bit lies within; past the last record it is 0.
use Rattle.std.specs.Prelude.{◌+◌, ◌*◌, ◌≤◌}
use Rattle.lists.specs.Kit.{◌∙◌, arith, length, get_or}
use borrow.Author.Tests.{lt-ltb, le-ltb}
use Rattle.lists.specs.Over.{in-record}
use Rattle.rbits.specs.Tables.{record_bit}
use Rattle.rbits.specs.DigitLaws.{num-mod}
use Rattle.rbits.proofs.digit.Goals as goal
use Rattle.rbits.proofs.digit.Goals.{Then-i-count}

within : (c : Then-i-count) → let a = c.args in a.i * a.stride + 0 + 1 ≤ length a.s.now
within c =
    let a = c.args in
    let p = c.requires in
    in-record a.i a.count a.stride 0 1 (length a.s.now) c.if-i-count.true p.0 p.1

pub returns-then-i-count : goal.returns-then-i-count
unfolding record_bit
returns-then-i-count c =
    let a = c.args in
    num-mod (get_or a.s.now (a.i * a.stride) 0) ∙ simp (lt-ltb _ _ c.if-i-count.true)

pub returns-else-i-count : goal.returns-else-i-count
unfolding record_bit
returns-else-i-count c = simp (le-ltb _ _ c.if-i-count.false)

pub overflow_mul-result : goal.overflow_mul-result
overflow_mul-result c = omega (arith, within (goal.at.overflow_mul-result c).Then-i-count)

pub bounds-s-i : goal.bounds-s-i
bounds-s-i c = omega (arith, within (goal.at.bounds-s-i c).Then-i-count)
