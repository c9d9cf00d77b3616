use Rattle.std.specs.Prelude.{◌+◌, ◌*◌}
use Rattle.lists.specs.Kit.{ap, arith}
use Rattle.rounds.specs.Fashare.{STRINGS}
use Rattle.fashare_dibi.specs.Laws.{dm-most}
use Rattle.fashare_dibi.proofs.dm_row.Goals as goal

pub overflow_mul-result-2 : goal.overflow_mul-result-2
overflow_mul-result-2 c =
    rw c.dm_len.ensures (omega (arith, dm-most c.args.n c.args.k c.args.q c.requires.n_bound c.requires.k_lt_n.0 c.requires.k_lt_n.1))

pub returns : goal.returns
returns c = ap (λ x. (c.args.k * STRINGS + c.args.q) * x) c.dm_len.ensures
