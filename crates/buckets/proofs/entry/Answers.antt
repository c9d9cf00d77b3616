use Rattle.std.specs.Prelude.{◌≡◌, ◌+◌, ◌*◌, ◌≤◌}
use Rattle.lists.specs.Kit.{ap, ap₂, ◌∙◌, arith, length}
use Prim.Native.Nat.{◌%◌}
use Rattle.plan.specs.Plan.{bucket_size}
use Rattle.plan.specs.PlanLaws.{leaky-most}
use Rattle.word.specs.Word.{word_at}
use Rattle.rounds.specs.Buckets.{entry}
use Rattle.buckets.specs.Entries.{leaky-some, place_inside}
use Rattle.buckets.proofs.entry.Goals as goal
use Rattle.buckets.proofs.entry.Goals.{After-bucket_size}

-- the entry lies within

same : (c : After-bucket_size) → c.args.j * c.bucket_size.result ≡ c.args.j * bucket_size c.args.f.l
same c = ap (λ b. c.args.j * b) c.bucket_size.ensures

inside : (c : After-bucket_size) → (c.args.j * c.bucket_size.result + c.args.e) * 4 + 4 ≤ length c.args.perm.now
inside c =
    omega (arith, same c, c.requires.perm_len, place_inside c.args.f.l c.args.j c.args.e c.requires.perm_len.1 c.requires.perm_len.2)

few : (c : After-bucket_size) → length c.args.perm.now ≤ 6000000
few c = omega (arith, c.requires.perm_len.0, leaky-most c.args.f.l c.requires.ranged.range.most)

pub overflow_mul-at : goal.overflow_mul-at
overflow_mul-at c = omega (arith, inside (goal.at.overflow_mul-at c).After-bucket_size, few (goal.at.overflow_mul-at c).After-bucket_size)

pub overflow_add-at : goal.overflow_add-at
overflow_add-at c = omega (arith, inside (goal.at.overflow_add-at c).After-bucket_size, few (goal.at.overflow_add-at c).After-bucket_size)

pub overflow_mul-at-2 : goal.overflow_mul-at-2
overflow_mul-at-2 c = omega (arith, inside (goal.at.overflow_mul-at-2 c).After-bucket_size, few (goal.at.overflow_mul-at-2 c).After-bucket_size)

pub load-requires : goal.load-requires
load-requires c = omega (arith, inside (goal.at.load-requires c).After-bucket_size)

pub nonzero_rem-result : goal.nonzero_rem-result
nonzero_rem-result c =
    omega (arith, c.leaky.ensures, leaky-some c.args.f.l c.requires.ranged.range.one)

pub returns : goal.returns
unfolding entry
returns c =
    ap₂ ◌%◌ (c.load.ensures ∙ ap (λ k. word_at ((k + c.args.e) * 4) c.args.perm.now) (same (goal.at.returns c).After-bucket_size))
    c.leaky.ensures
