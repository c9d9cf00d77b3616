use Rattle.std.specs.Prelude.{◌+◌, ◌*◌}
use Rattle.lists.specs.Kit.{ap₂, arith}
use Rattle.plan.specs.PlanLaws.{leaky-most}
use Rattle.fashare_comm.specs.Laws.{record-small}
use Rattle.fashare_comm.proofs.record_at.Goals as goal

pub overflow_mul-result : goal.overflow_mul-result
overflow_mul-result c = omega (arith, leaky-most c.args.f.l c.requires.0.most, c.leaky.ensures)

pub overflow_add-result : goal.overflow_add-result
overflow_add-result c = omega (arith, leaky-most c.args.f.l c.requires.0.most, c.leaky.ensures)

pub overflow_mul-result-2 : goal.overflow_mul-result-2
overflow_mul-result-2 c =
    rw (c.leaky.ensures, c.record_len.ensures)
    (omega (arith, record-small c.args.f c.args.q c.requires.0.eight c.requires.0.most c.requires.1))

pub returns : goal.returns
returns c = ap₂ (λ x y. (3 * x + c.args.q) * y) c.leaky.ensures c.record_len.ensures
