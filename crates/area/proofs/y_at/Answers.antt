use Rattle.std.specs.Prelude.{◌+◌, ◌*◌}
use Rattle.lists.specs.Kit.{ap₂, arith}
use Rattle.plan.specs.PlanLaws.{leaky-most}
use Rattle.area.specs.Positions.{position-most, record-most-at}
use Rattle.area.proofs.y_at.Goals as goal

pub overflow_add-result : goal.overflow_add-result
overflow_add-result c =
    omega (arith, leaky-most c.args.f.l c.requires.0.most, c.leaky.ensures, position-most c.args.f c.requires.0 c.args.t c.requires.1)

pub overflow_mul-result : goal.overflow_mul-result
overflow_mul-result c =
    rw (c.leaky.ensures, c.record_len.ensures)
    (omega (arith, record-most-at c.args.f c.requires.0 c.args.t c.requires.1 1 (omega arith)))

pub returns : goal.returns
returns c = ap₂ (λ k m. (k + c.args.t) * m) c.leaky.ensures c.record_len.ensures
