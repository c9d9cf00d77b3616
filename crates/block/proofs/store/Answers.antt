use Rattle.lists.specs.Kit.{◌∙◌, arith}
use Rattle.lists.specs.Over.{over-put, over-full}
use Rattle.block.specs.Block.{le8, bytes_of}
use Rattle.block.specs.Trip.{length-le8}
use Rattle.block.proofs.store.Goals as goal

pub returns : goal.returns
unfolding bytes_of
returns c =
    rw (c.store64.ensures, c.store64-2.ensures)
    (over-put (le8 c.args.b.0) (le8 c.args.b.1) c.args.out.now 8 8 (length-le8 c.args.b.0)
    ∙ over-full (bytes_of c.args.b) c.args.out.now 16 (omega arith))
