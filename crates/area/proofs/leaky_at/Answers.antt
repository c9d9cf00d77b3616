use Rattle.std.specs.Prelude.{◌*◌}
use Rattle.lists.specs.Kit.{ap, arith}
use Rattle.area.specs.Positions.{row-most}
use Rattle.area.proofs.leaky_at.Goals as goal

pub overflow_mul-result : goal.overflow_mul-result
overflow_mul-result c =
    rw c.leaky_len.ensures (omega (arith, row-most c.args.f c.requires.0 c.args.t c.requires.1))

pub returns : goal.returns
returns c = ap (λ m. c.args.t * m) c.leaky_len.ensures
