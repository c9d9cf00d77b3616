use Rattle.lists.specs.Kit.{ap₂, ◌∙◌}
use Rattle.block.specs.Group.{blocks}
use Rattle.flaand.proofs.term.Goals as goal

pub returns : goal.returns
returns c =
    c.xor.ensures
    ∙ ap₂ blocks.op c.mac_at.ensures
    (c.z_key-key.ensures ∙ ap₂ blocks.op c.key_at.ensures c.times.ensures)
