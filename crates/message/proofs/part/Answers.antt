use Rattle.std.specs.Prelude.{◌+◌, ◌≤◌}
use Rattle.lists.specs.Kit.{arith, length}
use native.Mathlib.Nat.{add-sub_cancel_left}
use borrow.Author.Tests.{leb-true}
use Rattle.message.specs.Read as R
use Rattle.message.proofs.part.Goals as goal
use Rattle.message.proofs.part.Goals.{Start}

-- what `inside` says
within : (c : Start) → c.args.start + c.args.len ≤ length c.args.incoming.now
unfolding R.inside
within c = leb-true (c.args.start + c.args.len) (length c.args.incoming.now) c.requires

pub overflow_add-result : goal.overflow_add-result
overflow_add-result c = omega (arith, within (goal.at.overflow_add-result c).Start)

pub slice_bounds-result-end : goal.slice_bounds-result-end
slice_bounds-result-end c = omega (arith, within (goal.at.slice_bounds-result-end c).Start)

pub returns : goal.returns
returns c = rw (add-sub_cancel_left c.args.start c.args.len)
