use Rattle.std.specs.Prelude.{◌≡◌, ◌+◌, ◌*◌, ◌≤◌}
use Rattle.lists.specs.Kit.{ap, arith}
use Rattle.plan.specs.Plan.{dm_len}
use Rattle.rounds.specs.Fashare.{STRINGS}
use Rattle.rounds.specs.DmLaws.{dues_in}
use Rattle.fashare_comm.specs.Laws.{dm-most, place-most}
use Rattle.fashare_ver_recv.specs.Laws.{dues-part, length-dues}
use Rattle.fashare_ver_recv.proofs.dm_of.Goals as goal
use Rattle.fashare_ver_recv.proofs.dm_of.Goals.{After-dm_len-len}

most : (c : After-dm_len-len) → c.args.q * (8 + c.dm_len-len.result) + c.dm_len-len.result ≤ 6000
most c =
    omega (
      arith,
      c.dm_len-len.ensures,
      dm-most c.args.n c.requires.le_n.1.0,
      place-most c.args.q c.args.n c.dm_len-len.result c.requires.le_n.1.1 c.requires.le_n.1.0 c.dm_len-len.ensures,
    )

pub overflow_add-from : goal.overflow_add-from
overflow_add-from c = omega (arith, c.dm_len-len.ensures, dm-most c.args.n c.requires.le_n.1.0)

pub overflow_mul-from : goal.overflow_mul-from
overflow_mul-from c = omega (arith, most (goal.at.overflow_mul-from c).After-dm_len-len)

pub overflow_add-from-2 : goal.overflow_add-from-2
overflow_add-from-2 c = omega (arith, most (goal.at.overflow_add-from-2 c).After-dm_len-len)

pub overflow_add-to : goal.overflow_add-to
overflow_add-to c = omega (arith, most (goal.at.overflow_add-to c).After-dm_len-len)

-- where it begins
from_is : (c : After-dm_len-len) → 16 + c.args.q * (8 + c.dm_len-len.result) ≡ 16 + c.args.q * (8 + dm_len c.args.n)
from_is c = ap (λ t. 16 + c.args.q * (8 + t)) c.dm_len-len.ensures

pub slice_bounds-result-end : goal.slice_bounds-result-end
slice_bounds-result-end c =
    omega (
      arith,
      c.dm_len-len.ensures,
      dues_in c.args.n STRINGS c.args.m.now c.requires.dues c.args.q _ c.requires.le_n.1.1
          (from_is (goal.at.slice_bounds-result-end c).After-dm_len-len),
    )

pub returns : goal.returns
returns c =
    let from = 16 + c.args.q * (8 + c.dm_len-len.result) in
    let e = from_is (goal.at.returns c).After-dm_len-len in
    let t : from + c.dm_len-len.result ≡ from + dm_len c.args.n = ap (λ t. from + t) c.dm_len-len.ensures in (
      dues-part c.args.n c.args.m.now c.requires.dues c.args.q from _ c.requires.le_n.1.1 e t,
      length-dues c.args.n c.args.m.now c.requires.dues c.args.q from _ c.requires.le_n.1.1 e t,
    )
