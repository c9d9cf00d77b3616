use Rattle.std.specs.Prelude.{◌+◌}
use Rattle.lists.specs.Kit.{ap₂, ◌∙◌, arith}
use Rattle.block.specs.Group.{blocks}
use Rattle.share.specs.Layout.{record-within}
use Rattle.haand_rows.proofs.key_and_mac.Goals as goal

pub key_at-requires : goal.key_at-requires
key_at-requires c = omega (arith, record-within c.args.n c.args.k c.requires.1)

pub mac_at-requires : goal.mac_at-requires
mac_at-requires c = omega (arith, record-within c.args.n c.args.k c.requires.1)

pub returns : goal.returns
returns c = c.xor.ensures ∙ ap₂ blocks.op c.key_at.ensures c.mac_at.ensures
