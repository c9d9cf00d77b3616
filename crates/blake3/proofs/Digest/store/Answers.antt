use Rattle.std.specs.Prelude.{◌++◌}
use Rattle.lists.specs.Kit.{ap, ◌∙◌, arith}
use Rattle.lists.specs.Over.{over-put, over-full}
use Rattle.block.specs.Block.{block_at, bytes_of}
use Rattle.block.specs.Trip.{length-bytes_of}
use Rattle.blake3.specs.Tree.{bytes}
use Rattle.blake3.specs.ByteLaws.{halves}
use Rattle.blake3.proofs.Digest.store.Goals as goal

pub returns : goal.returns
returns c =
    let d0 = block_at (bytes c.args.self.0) 0 in
    let d1 = block_at (bytes c.args.self.0) 16 in
    let x =
    c.store.ensures
    ∙ ap bytes_of c.block.ensures in
    let y = c.store-2.ensures ∙ ap bytes_of c.second.ensures in
    rw (x, y)
    (over-put (bytes_of d0) (bytes_of d1) c.args.out.now 16 16 (length-bytes_of d0)
    ∙ over-full (bytes_of d0 ++ bytes_of d1) c.args.out.now 32 (omega arith)
    ∙ halves c.args.self.0)
