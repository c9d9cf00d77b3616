use Rattle.std.specs.Prelude.{◌+◌}
use Rattle.lists.specs.Kit.{◌∙◌, arith, refl}
use Rattle.share.specs.Layout.{record-within}
use Rattle.haand_hash.proofs.part_of.Goals as goal

pub key_at-requires : goal.key_at-requires
key_at-requires c = omega (arith, record-within c.args.n c.args.k c.requires.1)

pub mac_at-requires : goal.mac_at-requires
mac_at-requires c = omega (arith, record-within c.args.n c.args.k c.requires.1)
