use Rattle.std.specs.Prelude.{◌+◌, ◌*◌, ◌≤◌}
use Rattle.lists.specs.Kit.{ap, ap₂, ◌∙◌, arith, length}
use Rattle.block.specs.Block.{block_at}
use Rattle.block.specs.Group.{blocks}
use Rattle.rounds.specs.Area.{leaky_len}
use Rattle.rounds.specs.Haand as R
use Rattle.flaand.specs.HLaws.{hashes_at}
use Rattle.flaand.specs.KeptLaws.{row_in, z_in_lem}
use Rattle.flaand.proofs.hashes.Goals as goal
use Rattle.flaand.proofs.hashes.Goals.{After-leaky_at, After-load-key_hash}

pub leaky_at-requires : goal.leaky_at-requires
leaky_at-requires c = (c.requires.0.ranges.range, c.requires.1)

read-in : (c : After-leaky_at) → c.leaky_at.result + 16 + 16 ≤ length c.args.rows.now
unfolding leaky_len
read-in c =
    omega (arith, row_in c.requires.0 c.args.t c.requires.1 16 (omega arith), c.leaky_at.ensures)

pub overflow_add-leaky_at : goal.overflow_add-leaky_at
overflow_add-leaky_at c = omega (arith, read-in (goal.at.overflow_add-leaky_at c).After-leaky_at)

pub load-key_hash-requires : goal.load-key_hash-requires
load-key_hash-requires c = read-in (goal.at.load-key_hash-requires c).After-leaky_at

-- the row of ZS
z_at_lem : (c : After-load-key_hash) → c.args.t * 17 + 1 + 16 ≤ length c.args.zs.now
z_at_lem c = omega (arith, z_in_lem c.requires.0 c.args.t c.requires.1)

pub overflow_mul-t : goal.overflow_mul-t
overflow_mul-t c = omega (arith, z_at_lem (goal.at.overflow_mul-t c).After-load-key_hash)

pub overflow_add-t : goal.overflow_add-t
overflow_add-t c = omega (arith, z_at_lem (goal.at.overflow_add-t c).After-load-key_hash)

pub load-requires : goal.load-requires
load-requires c = z_at_lem (goal.at.load-requires c).After-load-key_hash

pub returns : goal.returns
unfolding hashes_at R.key_hash R.mac_hash
returns c =
    c.xor.ensures ∙ ap₂ blocks.op
    (c.load-key_hash.ensures ∙ ap (λ m. block_at c.args.rows.now (m + 16)) c.leaky_at.ensures) c.load.ensures
