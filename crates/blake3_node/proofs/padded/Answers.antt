use Rattle.lists.specs.Kit.{◌∙◌}
use Rattle.blake3_node.proofs.Blocks.{padded-words}
use Rattle.blake3_node.proofs.padded.Goals as goal

pub returns : goal.returns
returns c = c.whole.ensures ∙ padded-words c.args.s.now _ 64 c.copy_from_slice.ensures.after
