use Rattle.std.specs.Prelude.{◌+◌}
use Rattle.lists.specs.Kit.{arith}
use Rattle.share.specs.Record.{own_zero}
use Rattle.share.specs.LentLaws.{lent_longer}
use Rattle.records.proofs.own_zero.Goals as goal

pub overflow_add-entries : goal.overflow_add-entries
overflow_add-entries c = omega (arith, lent_longer (c.args.i + 1), c.requires.1, c.well_formed)

pub mac_at-m-requires : goal.mac_at-m-requires
mac_at-m-requires c = (c.requires.0, omega (arith, lent_longer (c.args.i + 1), c.requires.1))

pub key_at-k-requires : goal.key_at-k-requires
key_at-k-requires c = (c.requires.0, omega (arith, lent_longer (c.args.i + 1), c.requires.1))

pub returns : goal.returns
unfolding own_zero
returns c = cc
