use Rattle.std.specs.Prelude.{◌+◌, ◌*◌}
use Rattle.lists.specs.Kit.{ap, ◌∙◌, arith, length}
use native.Mathlib.Nat.{add-sub_cancel_left}
use lib.ListN.{length-set}
use Rattle.encode.specs.Bucket.{dvalue_in, length-dvalue_in}
use Rattle.encode.proofs.put_dvalue.Goals as goal

pub slice_bounds-store-end : goal.slice_bounds-store-end
slice_bounds-store-end c = simp length-set (omega arith)

pub returns : goal.returns
unfolding dvalue_in
returns c =
    rw (add-sub_cancel_left (16 + c.args.due + c.args.k * 16) 16, c.bit_byte.ensures, c.store.ensures)

pub shape_of-out : goal.shape_of-out
shape_of-out c =
    ap length (returns c)
    ∙ length-dvalue_in c.args.due c.args.k c.args.d c.args.x c.args.out.now c.requires.0 c.requires.1
