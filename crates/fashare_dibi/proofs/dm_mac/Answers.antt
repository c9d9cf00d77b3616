use Rattle.std.specs.Prelude.{◌+◌, ◌≤◌}
use Rattle.lists.specs.Kit.{refl, ap₂, ◌∙◌, arith, length}
use Rattle.block.specs.Block.{block_at}
use Rattle.block.specs.Group.{blocks}
use Rattle.rounds.specs.Fashare as Fashare
use Rattle.rounds.specs.Loops.{sel-own, sel-other}
use Rattle.fashare_dibi.specs.Laws.{dm-in, mac-place}
use Rattle.fashare_dibi.proofs.dm_mac.Goals as goal
use Rattle.fashare_dibi.proofs.dm_mac.Goals.{After-dm_mac_off}

pub returns-then-k-j : goal.returns-then-k-j
returns-then-k-j c = c.zero.ensures ∙ sel-own blocks c.args.k c.args.j _ c.if-k-j.true

-- the MAC lies within
within : (c : After-dm_mac_off) → c.dm_row.result + c.dm_mac_off.result + 16 ≤ length c.args.dms.now
within c =
    rw (c.dm_row.ensures, c.dm_mac_off.ensures)
    (omega (
      arith,
      dm-in c.args.f.n c.args.j c.args.q _ c.requires.k_lt_n.1 c.requires.n_bound.1 c.requires.dms_len,
      mac-place c.args.f.n c.args.j c.args.k c.requires.k_lt_n.1 c.requires.k_lt_n.0 c.if-k-j.false,
    ))

pub overflow_add-dm_row : goal.overflow_add-dm_row
overflow_add-dm_row c = omega (arith, within (goal.at.overflow_add-dm_row c).After-dm_mac_off)

pub load-requires : goal.load-requires
load-requires c = within (goal.at.load-requires c).After-dm_mac_off

pub returns : goal.returns
unfolding Fashare.dm_row
returns c =
    c.load.ensures
    ∙ ap₂ (λ x y. block_at c.args.dms.now (x + y)) c.dm_row.ensures c.dm_mac_off.ensures
    ∙ sel-other blocks c.args.k c.args.j _ _ c.if-k-j.false refl
