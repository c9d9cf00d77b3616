use Rattle.std.specs.Prelude.{◌+◌, ◌*◌, ◌≤◌}
use Rattle.lists.specs.Kit.{ap₂, arith}
use native.Mathlib.Nat.{mul-le-mul_right}
use Rattle.share.specs.Layout.{record-most}
use Rattle.plan.specs.PlanLaws.{leaky-most}
use Rattle.buckets.specs.Entries.{entry_lt}
use Rattle.buckets.proofs.y_at.Goals as goal
use Rattle.buckets.proofs.y_at.Goals.{After-entry}

few : (c : After-entry) → c.leaky.result + c.entry.result ≤ 3000000
few c =
    omega (
      arith,
      c.leaky.ensures,
      c.entry.ensures,
      leaky-most c.args.f.l c.requires.ranged.range.most,
      entry_lt c.args.f c.args.perm.now c.args.j c.args.e c.requires.ranged.range.one,
    )

pub overflow_add-result : goal.overflow_add-result
overflow_add-result c = omega (arith, few (goal.at.overflow_add-result c).After-entry)

pub overflow_mul-result : goal.overflow_mul-result
overflow_mul-result c =
    omega (arith, mul-le-mul_right c.record_len.result (few (goal.at.overflow_mul-result c).After-entry), c.record_len.ensures, record-most c.args.f.n c.requires.ranged.range.eight)

pub returns : goal.returns
returns c = ap₂ ◌*◌ (ap₂ ◌+◌ c.leaky.ensures c.entry.ensures) c.record_len.ensures
