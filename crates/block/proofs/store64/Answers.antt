use Rattle.lists.specs.Kit.{◌∙◌}
use Rattle.block.specs.Trip.{le8-std}
use Rattle.block.proofs.store64.Goals as goal

pub returns : goal.returns
returns c = c.copy_from_slice.ensures.after ∙ c.to_le_bytes.ensures ∙ le8-std c.args.w
