use Rattle.lists.specs.Kit.{sym, ap, ◌∙◌, arith, length}
use lib.ListN.{length-set}
use Rattle.algebra.specs.Group.{num}
use Rattle.block.specs.Block.{bytes_of}
use Rattle.encode.specs.Encode.{bit_block}
use Rattle.encode.specs.Coded.{length-bit_block}
use Rattle.encode.proofs.Laws.{byte-block}
use Rattle.encode.proofs.put_bit_block.Goals as goal

pub slice_bounds-store-end : goal.slice_bounds-store-end
slice_bounds-store-end c = simp length-set (omega arith)

pub returns : goal.returns
unfolding bit_block
returns c =
    byte-block (num c.args.b) _ (bytes_of c.args.x) _ c.args.out.now c.requires
    c.bit_byte.ensures c.store.ensures

pub shape_of-out : goal.shape_of-out
shape_of-out c =
    ap length (returns c) ∙ length-bit_block c.args.b c.args.x ∙ sym c.requires
