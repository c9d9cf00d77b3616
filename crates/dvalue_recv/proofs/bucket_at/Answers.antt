use Rattle.std.specs.Prelude.{◌≡◌, ◌+◌, ◌*◌, ◌≤◌}
use Rattle.lists.specs.Kit.{sym, ap, ◌∙◌, arith}
use Rattle.dvalue.specs.Dvalues.{bucket_len, bucket-is, places-most}
use Rattle.dvalue_recv.proofs.bucket_at.Goals as goal
use Rattle.dvalue_recv.proofs.bucket_at.Goals.{After-bucket_len}

same : (c : After-bucket_len) → c.args.j * c.bucket_len.result ≡ c.args.j * bucket_len c.args.f
same c = ap (λ b. c.args.j * b) c.bucket_len.ensures

most : (c : After-bucket_len) → c.args.j * c.bucket_len.result ≤ 300000 * 84
most c = omega (arith, same c, places-most c.args.f c.args.j c.requires.0 c.requires.1)

pub returns : goal.returns
returns c = ap (λ m. 8 + m) (same (goal.at.returns c).After-bucket_len) ∙ sym (bucket-is c.args.f c.args.j)

pub overflow_mul-result : goal.overflow_mul-result
overflow_mul-result c = omega (arith, most (goal.at.overflow_mul-result c).After-bucket_len)

pub overflow_add-result : goal.overflow_add-result
overflow_add-result c = omega (arith, most (goal.at.overflow_add-result c).After-bucket_len)
