-- A record's Block lies within; past the last record it is zero.
use Rattle.std.specs.Prelude.{◌+◌, ◌*◌, ◌≤◌}
use Rattle.lists.specs.Kit.{◌∙◌, arith, length}
use borrow.Author.Tests.{lt-ltb, le-ltb}
use Rattle.lists.specs.Over.{in-record}
use Rattle.rbits.specs.Tables.{record_block}
use Rattle.rbits.proofs.record_block.Goals as goal
use Rattle.rbits.proofs.record_block.Goals.{Then-t-count}

within : (c : Then-t-count) → let a = c.args in a.t * a.stride + a.at + 16 ≤ length a.s.now
within c =
    let a = c.args in
    let p = c.requires in
    in-record a.t a.count a.stride a.at 16 (length a.s.now) c.if-t-count.true p.0 p.1

pub returns-then-t-count : goal.returns-then-t-count
unfolding record_block
returns-then-t-count c = c.load.ensures ∙ simp (lt-ltb _ _ c.if-t-count.true)

pub returns-else-t-count : goal.returns-else-t-count
unfolding record_block
returns-else-t-count c = c.zero.ensures ∙ simp (le-ltb _ _ c.if-t-count.false)

pub overflow_mul-t : goal.overflow_mul-t
overflow_mul-t c = omega (arith, within (goal.at.overflow_mul-t c).Then-t-count)

pub overflow_add-t : goal.overflow_add-t
overflow_add-t c = omega (arith, within (goal.at.overflow_add-t c).Then-t-count)

pub load-requires : goal.load-requires
load-requires c = within (goal.at.load-requires c).Then-t-count
