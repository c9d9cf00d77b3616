use Rattle.lists.specs.Kit.{refl, sym, ap, ◌∙◌, arith, length}
use lib.ListN.{length-set}
use Rattle.block.specs.Block.{bytes_of}
use Rattle.block.specs.Trip.{length-bytes_of}
use Rattle.encode.specs.Encode.{some_item}
use Rattle.encode.specs.Coded.{length_some}
use Rattle.encode.proofs.Laws.{byte-block}
use Rattle.encode.proofs.put_some.Goals as goal

pub slice_bounds-store-end : goal.slice_bounds-store-end
slice_bounds-store-end c = simp length-set (omega arith)

pub returns : goal.returns
unfolding some_item
returns c =
    byte-block 1 1 (bytes_of c.args.hash) _ c.args.out.now c.requires refl c.store.ensures

pub shape_of-out : goal.shape_of-out
shape_of-out c =
    ap length (returns c) ∙ length_some (bytes_of c.args.hash) (length-bytes_of c.args.hash) ∙ sym c.requires
