use Rattle.std.specs.Prelude.{◌*◌}
use Rattle.lists.specs.Kit.{ap, arith}
use Rattle.area.specs.Positions.{record-most-at}
use Rattle.area.proofs.x_at.Goals as goal

pub overflow_mul-result : goal.overflow_mul-result
overflow_mul-result c =
    rw c.record_len.ensures (omega (arith, record-most-at c.args.f c.requires.0 c.args.t c.requires.1 0 (omega arith)))

pub returns : goal.returns
returns c = ap (λ m. c.args.t * m) c.record_len.ensures
