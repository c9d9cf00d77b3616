use Rattle.std.specs.Prelude.{◌≡◌, ◌+◌, ◌*◌, ◌<◌, ◌≤◌}
use Rattle.lists.specs.Kit.{sym, ap, ◌∙◌, Bool, ℕ, arith, length, get_or}
use native.Mathlib.Nat.{add-zero}
use Rattle.std.proofs.Common.{add-one}
use Rattle.algebra.specs.Group.{bits}
use Rattle.algebra.specs.Bucket.{bucket_x, bucket_z, first-x, first-z}
use Rattle.share.specs.Share.{share_at}
use Rattle.bucket_sum.specs.Sums.{x_among, step-most, bit-turn-x, bit-turn-z}
use Rattle.bucket_sum.proofs.sum_bits.Goals as goal
use Rattle.bucket_sum.proofs.sum_bits.Invariants.{xs, zs, ds}
use Rattle.bucket_sum.proofs.sum_bits.Goals.{After-shared_slice_known-5-1, After-shared_slice_known-in-loop-e-1}

-- ---- of a call

some : (c : After-shared_slice_known-5-1) → 0 < length c.args.ts.now
some c = omega (arith, c.requires.ts_len)

x_in_lem : (c : After-shared_slice_known-5-1) → (e : ℕ) (l : e < length c.args.ts.now) → (get_or c.args.ts.now e 0) * c.args.len < length
    c.args.s.now
x_in_lem c e l = omega (arith, c.requires.within.0 e l, ap (λ a. a * c.args.len) (add-zero (get_or c.args.ts.now e 0)))

z_in_lem : (c : After-shared_slice_known-5-1) → (e : ℕ) (l : e < length c.args.ts.now) → ((get_or c.args.ts.now e 0) + c.args.behind) *
    c.args.step < length c.args.zs.now
z_in_lem c e l = omega (arith, c.requires.within.1 e l)

small : (c : After-shared_slice_known-5-1) → (e : ℕ) (l : e < length c.args.ts.now) → (get_or c.args.ts.now e 0) + c.args.behind ≤ length
    c.args.zs.now
small c e l = omega (arith, z_in_lem c e l, step-most ((get_or c.args.ts.now e 0) + c.args.behind) c.args.step c.requires.within.3)

pub bounds-ts-0 : goal.bounds-ts-0
bounds-ts-0 c =
    let some-here : 0 < length c.args.ts.now = omega (arith, c.requires.ts_len) in
    some-here

pub overflow_mul-first : goal.overflow_mul-first
overflow_mul-first c = omega (
  arith,
  x_in_lem (goal.at.overflow_mul-first c).After-shared_slice_known-5-1 0
      (some (goal.at.overflow_mul-first c).After-shared_slice_known-5-1),
  c.well_formed,
)

pub bit_at-x-requires : goal.bit_at-x-requires
bit_at-x-requires c = x_in_lem (goal.at.bit_at-x-requires c).After-shared_slice_known-5-1 0
    (some (goal.at.bit_at-x-requires c).After-shared_slice_known-5-1)

pub overflow_add-first : goal.overflow_add-first
overflow_add-first c = omega (
  arith,
  small (goal.at.overflow_add-first c).After-shared_slice_known-5-1 0
      (some (goal.at.overflow_add-first c).After-shared_slice_known-5-1),
  c.well_formed,
)

pub overflow_mul-first-2 : goal.overflow_mul-first-2
overflow_mul-first-2 c = omega (
  arith,
  z_in_lem (goal.at.overflow_mul-first-2 c).After-shared_slice_known-5-1 0
      (some (goal.at.overflow_mul-first-2 c).After-shared_slice_known-5-1),
  c.well_formed,
)

pub bit-z-requires : goal.bit-z-requires
bit-z-requires c = z_in_lem (goal.at.bit-z-requires c).After-shared_slice_known-5-1 0
    (some (goal.at.bit-z-requires c).After-shared_slice_known-5-1)

pub loop-e-init : goal.loop-e-init
unfolding x_among share_at
loop-e-init c = (
  c.bit_at-x.ensures ∙ sym (first-x bits (xs c.args.len c.args.s.now c.args.ts.now)),
  c.bit-z.ensures
      ∙ sym (first-z bits (xs c.args.len c.args.s.now c.args.ts.now) (zs c.args.zs.now c.args.ts.now c.args.behind c.args.step)
      (ds c.args.d.now)),
)

-- ---- in a turn

next : (c : After-shared_slice_known-in-loop-e-1) → c.loop-e.e + 1 < length c.args.ts.now
next c = omega (arith, c.loop-e-test.true, c.requires.ts_len)

pub bounds-ts-e : goal.bounds-ts-e
bounds-ts-e c = omega (arith, c.loop-e-test.true, c.requires.ts_len)

pub overflow_mul-t : goal.overflow_mul-t
overflow_mul-t c = omega (
  arith,
  x_in_lem (goal.at.overflow_mul-t c).After-shared_slice_known-5-1 (c.loop-e.e + 1)
      (next (goal.at.overflow_mul-t c).After-shared_slice_known-in-loop-e-1),
  c.well_formed,
)

pub bit_at-later-requires : goal.bit_at-later-requires
bit_at-later-requires c = x_in_lem (goal.at.bit_at-later-requires c).After-shared_slice_known-5-1 (c.loop-e.e + 1)
    (next (goal.at.bit_at-later-requires c).After-shared_slice_known-in-loop-e-1)

pub overflow_add-t-in-loop-e : goal.overflow_add-t-in-loop-e
overflow_add-t-in-loop-e c = omega (
  arith,
  small (goal.at.overflow_add-t-in-loop-e c).After-shared_slice_known-5-1 (c.loop-e.e + 1)
      (next (goal.at.overflow_add-t-in-loop-e c).After-shared_slice_known-in-loop-e-1),
  c.well_formed,
)

pub overflow_mul-t-in-loop-e : goal.overflow_mul-t-in-loop-e
overflow_mul-t-in-loop-e c = omega (
  arith,
  z_in_lem (goal.at.overflow_mul-t-in-loop-e c).After-shared_slice_known-5-1 (c.loop-e.e + 1)
      (next (goal.at.overflow_mul-t-in-loop-e c).After-shared_slice_known-in-loop-e-1),
  c.well_formed,
)

pub bit-next-requires : goal.bit-next-requires
bit-next-requires c = z_in_lem (goal.at.bit-next-requires c).After-shared_slice_known-5-1 (c.loop-e.e + 1)
    (next (goal.at.bit-next-requires c).After-shared_slice_known-in-loop-e-1)

pub loop-e-preserved : goal.loop-e-preserved
unfolding x_among share_at
loop-e-preserved c =
    let X : ℕ → Bool = xs c.args.len c.args.s.now c.args.ts.now in
    let Z : ℕ → Bool = zs c.args.zs.now c.args.ts.now c.args.behind c.args.step in
    let D : ℕ → Bool = ds c.args.d.now in
    let later : c.bit_at-later.result ≡ X (c.loop-e.e + 1) = c.bit_at-later.ensures in
    let p = sym (add-one c.loop-e.e) in (
      bit-turn-x X Z D c.loop-e.e (c.loop-e.e + 1) p c.loop-e.x c.bit_at-later.result c.loop-e.invariant.0 later ∙ ap (bucket_x bits X) p,
      bit-turn-z X Z D c.loop-e.e (c.loop-e.e + 1) p c.loop-e.z c.bit_at-later.result c.bit-next.result c.bit.result c.loop-e.invariant.1
          later
          c.bit-next.ensures c.bit.ensures ∙ ap (bucket_z bits X Z D) p,
    )

pub returns : goal.returns
returns c =
    let q : c.loop-e.e ≡ length c.args.d.now = omega arith in (
      c.loop-e.invariant.0 ∙ ap (bucket_x bits (xs c.args.len c.args.s.now c.args.ts.now)) q,
      c.loop-e.invariant.1 ∙ ap (bucket_z bits (xs c.args.len c.args.s.now c.args.ts.now)
          (zs c.args.zs.now c.args.ts.now c.args.behind c.args.step) (ds c.args.d.now)) q,
    )
