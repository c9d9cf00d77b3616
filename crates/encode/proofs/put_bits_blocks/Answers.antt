use Rattle.lists.specs.Kit.{sym, ap, ◌∙◌, arith, length}
use lib.ListN.{length-set}
use Rattle.algebra.specs.Group.{num}
use Rattle.block.specs.Block.{bytes_of}
use Rattle.block.specs.Trip.{length-bytes_of}
use Rattle.encode.specs.Encode.{two_bits_two_blocks}
use Rattle.encode.specs.Coded.{length-two_bits_two_blocks}
use Rattle.encode.proofs.Laws.{bytes-blocks, block-between}
use Rattle.encode.proofs.put_bits_blocks.Goals as goal

pub slice_bounds-store-end : goal.slice_bounds-store-end
slice_bounds-store-end c = simp length-set (omega arith)

pub slice_bounds-store-end-2 : goal.slice_bounds-store-end-2
slice_bounds-store-end-2 c =
    omega (
      arith,
      block-between c.bit_byte.result c.bit_byte-2.result (bytes_of c.args.x) c.store.new.out c.args.out.now
          c.requires (length-bytes_of c.args.x) c.store.ensures,
    )

pub returns : goal.returns
unfolding two_bits_two_blocks
returns c =
    bytes-blocks (num c.args.d) _ (num c.args.e) _ (bytes_of c.args.x) _ (bytes_of c.args.y) _ c.args.out.now c.requires
    (length-bytes_of c.args.x) c.bit_byte.ensures c.bit_byte-2.ensures c.store.ensures c.store-2.ensures

pub shape_of-out : goal.shape_of-out
shape_of-out c =
    ap length (returns c) ∙ length-two_bits_two_blocks c.args.d c.args.e c.args.x c.args.y ∙ sym c.requires
