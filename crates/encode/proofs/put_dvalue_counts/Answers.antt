use Rattle.std.specs.Prelude.{◌+◌}
use native.Mathlib.Nat.{add-sub_cancel_left}
use Rattle.encode.specs.Bucket.{counts}
use Rattle.encode.proofs.put_dvalue_counts.Goals as goal

pub returns : goal.returns
unfolding counts
returns c =
    rw (add-sub_cancel_left (8 + c.args.due) 8, c.put_count.ensures, c.put_count-2.ensures)
