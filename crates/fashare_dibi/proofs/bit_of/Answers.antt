use Rattle.lists.specs.Kit.{ap, ◌∙◌, arith, get_or}
use Rattle.algebra.specs.Group.{odd}
use Rattle.plan.specs.Plan.{dm_len}
use Rattle.rounds.specs.Fashare.{dm_row}
use Rattle.fashare_dibi.specs.Laws.{dm-in}
use Rattle.fashare_dibi.proofs.bit_of.Goals as goal

pub bit-requires : goal.bit-requires
unfolding dm_len
bit-requires c =
    rw c.dm_row.ensures (omega (arith, dm-in c.args.f.n c.args.k c.args.q _ c.requires.k_lt_n.0 c.requires.q_bound.0 c.requires.q_bound.1))

pub returns : goal.returns
unfolding dm_row
returns c = c.bit.ensures ∙ ap (λ t. odd (get_or c.args.dms.now t 0)) c.dm_row.ensures
