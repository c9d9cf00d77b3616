use Rattle.lists.specs.Kit.{ap, ◌∙◌}
use Rattle.lists.specs.Over.{two-parts}
use Rattle.block.specs.declared.Block.{Block}
use Rattle.block.specs.Block.{bytes_of}
use Rattle.block.specs.Group.{blocks}
use Rattle.block.specs.Trip.{length-bytes_of}
use Rattle.encode.specs.Encode.{two_bits}
use Rattle.haand_rows.specs.Parts.{entry_of}
use Rattle.haand_rows.proofs.put_entry.Goals as goal

pub returns : goal.returns
unfolding entry_of two_bits
returns c =
    two-parts 16 2 (bytes_of (blocks.op (blocks.op c.args.a.0 c.args.b.0) c.args.p)) _ _ _ c.args.out.now c.requires (length-bytes_of _)
    (c.store.ensures ∙ ap bytes_of (c.xor.ensures ∙ ap (λ (y : Block). blocks.op y c.args.p) c.xor-u.ensures))
    c.put_two_bits.ensures
