-- The loop's invariant: x and z have the bits of the first e + 1 records of the bucket.
use Rattle.std.specs.Prelude.{◌≡◌, ◌+◌, ◌*◌}
use Rattle.lists.specs.Kit.{List, Bool, ℕ, get_or}
use Rattle.algebra.specs.Group.{bits, odd}
use Rattle.algebra.specs.Bucket.{bucket_x, bucket_z}
use Rattle.bucket_sum.specs.Sums.{x_among}
use Rattle.bucket_sum.proofs.sum_bits.Given as goal

-- the bits of x, of z, and d
abbrev pub xs : ℕ → List ℕ → List ℕ → ℕ → Bool
xs len s ts e = (x_among len s ts e).bit

abbrev pub zs : List ℕ → List ℕ → ℕ → ℕ → ℕ → Bool
zs z ts behind step e = odd (get_or z ((get_or ts e 0 + behind) * step) 0)

abbrev pub ds : List ℕ → ℕ → Bool
ds d e = odd (get_or d e 0)

abbrev pub invariant-loop-e : goal.invariant-loop-e
invariant-loop-e l = (l.x ≡ bucket_x bits (xs l.len l.s l.ts) l.e)
    × (l.z ≡ bucket_z bits (xs l.len l.s l.ts) (zs l.zs l.ts l.behind l.step) (ds l.d) l.e)
