use Rattle.std.specs.Prelude.{◌++◌}
use Rattle.lists.specs.Kit.{◌∙◌, arith}
use Rattle.lists.specs.Over.{over-put, over-full}
use Rattle.block.specs.Block.{bytes_of}
use Rattle.block.specs.Trip.{length-bytes_of}
use Rattle.share.proofs.put_entry.Goals as goal

pub returns : goal.returns
returns c =
    rw (c.store.ensures, c.store-2.ensures)
    (over-put (bytes_of c.args.x.mac.0) (bytes_of c.args.x.key.0) c.args.out.now 16 16 (length-bytes_of c.args.x.mac.0)
    ∙ over-full (bytes_of c.args.x.mac.0 ++ bytes_of c.args.x.key.0) c.args.out.now 32 (omega arith))
