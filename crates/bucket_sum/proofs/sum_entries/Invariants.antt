-- The loop's invariant: x and z have the first e + 1 records of the bucket.
use Rattle.lists.specs.Kit.{List, ℕ, get_or}
use Rattle.algebra.specs.Group.{odd}
use Rattle.algebra.specs.Bucket.{bucket_x, bucket_z}
use Rattle.share.specs.Share.{shares}
use Rattle.bucket_sum.specs.declared.Sums.{Sums}
use Rattle.bucket_sum.specs.Sums.{x_among, z_among, Summed}
use Rattle.bucket_sum.proofs.sum_entries.Given as goal

-- the sums over the first c + 1
abbrev pub Sofar : ℕ → List ℕ → List ℕ → ℕ → List ℕ → ℕ → ℕ → Sums → Type 0
Sofar len s ts behind d k c r =
    Summed k (bucket_x shares (x_among len s ts) c) (bucket_z shares (x_among len s ts) (z_among len s ts behind)
    (λ i. odd (get_or d i 0)) c) r

abbrev pub invariant-loop-e : goal.invariant-loop-e
invariant-loop-e l = Sofar l.len l.s l.ts l.behind l.d l.k l.e (record { x = l.x; z = l.z })
