use Rattle.lists.specs.Kit.{ap, ap₂, ◌∙◌}
use Rattle.block.specs.Block.{block_at}
use Rattle.encode.specs.Encode.{bit_block}
use Rattle.rounds.specs.Haand as R
use Rattle.flaand.specs.KeptLaws.{u-in}
use Rattle.flaand.proofs.put_item.Goals as goal

pub entry_at-requires : goal.entry_at-requires
entry_at-requires c =
    (c.requires.half_ands.0.ranges.range, c.requires.half_ands.1, c.requires.out_len.1)

-- u lies within the row
pub load-u-requires : goal.load-u-requires
load-u-requires c =
    rw c.entry_at.ensures (u-in c.requires.half_ands.0 c.args.t c.requires.half_ands.1 c.args.k c.requires.out_len.1)

pub returns : goal.returns
unfolding R.u_at
returns c =
    c.put_bit_block.ensures
    ∙ ap₂ bit_block c.e_at-e.ensures
    (c.load-u.ensures ∙ ap (block_at c.args.rows.now) c.entry_at.ensures)
