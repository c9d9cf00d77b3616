use Rattle.std.specs.Prelude.{◌≡◌, ◌+◌, ◌*◌, ◌<◌, ◌≤◌}
use Rattle.lists.specs.Kit.{sym, ap₂, subst, ◌∙◌, ℕ, arith, length, get_or}
use Rattle.std.proofs.Common.{add-one}
use Rattle.algebra.specs.Group.{odd}
use Rattle.block.specs.Group.{blocks}
use Rattle.share.specs.Layout.{record-within}
use Rattle.share.specs.Record.{record_len}
use Rattle.share.specs.Share.{share_at}
use Rattle.bucket_sum.specs.declared.Sums.{Sums}
use Rattle.bucket_sum.specs.Sums.{x_among, z_among, x_fits, no_wrap, summed-first, summed_turn}
use Rattle.bucket_sum.proofs.sum_entries.Goals as goal
use Rattle.bucket_sum.proofs.sum_entries.Invariants.{Sofar}
use Rattle.bucket_sum.proofs.sum_entries.Goals.{After-shared_slice_known-4-1, After-shared_slice_known-in-loop-e-1}

-- ---- of a call

some : (c : After-shared_slice_known-4-1) → 0 < length c.args.ts.now
some c = omega (arith, c.requires.0.count)

-- entry k of a record
within : (c : After-shared_slice_known-4-1) → record_len (c.args.k + 1) ≤ record_len c.args.n
within c = record-within c.args.n c.args.k c.requires.1

few : (c : After-shared_slice_known-4-1) → c.args.k < 8
few c = omega (arith, c.requires.1, c.requires.0.few)

x_in_lem : (c : After-shared_slice_known-4-1) → (e : ℕ) (l : e < length c.args.ts.now) → (get_or c.args.ts.now e 0) * (c.args.len) +
    record_len c.args.n ≤ length c.args.s.now
x_in_lem c e l = x_fits c.requires.0 e l

z_in_lem : (c : After-shared_slice_known-4-1) → (e : ℕ) (l : e < length c.args.ts.now) → ((get_or c.args.ts.now e 0) + c.args.behind) *
    (c.args.len) + record_len c.args.n ≤ length c.args.s.now
z_in_lem c e l = c.requires.0.inside e l

small : (c : After-shared_slice_known-4-1) → (e : ℕ) (l : e < length c.args.ts.now) → (get_or c.args.ts.now e 0) + c.args.behind ≤ length
    c.args.s.now
small c e l = no_wrap c.requires.0 e l

pub bounds-ts-0 : goal.bounds-ts-0
bounds-ts-0 c =
    let some-here : 0 < length c.args.ts.now = omega (arith, c.requires.0.count) in
    some-here

pub overflow_mul-first : goal.overflow_mul-first
overflow_mul-first c = omega (
  arith,
  x_in_lem (goal.at.overflow_mul-first c).After-shared_slice_known-4-1 0
      (some (goal.at.overflow_mul-first c).After-shared_slice_known-4-1),
  c.well_formed,
)

pub entry_at-x-requires : goal.entry_at-x-requires
entry_at-x-requires c = (
  few (goal.at.entry_at-x-requires c).After-shared_slice_known-4-1,
  omega (
    arith,
    x_in_lem (goal.at.entry_at-x-requires c).After-shared_slice_known-4-1 0
        (some (goal.at.entry_at-x-requires c).After-shared_slice_known-4-1),
    within (goal.at.entry_at-x-requires
        c).After-shared_slice_known-4-1,
  ),
)

pub overflow_add-first : goal.overflow_add-first
overflow_add-first c = omega (
  arith,
  small (goal.at.overflow_add-first c).After-shared_slice_known-4-1 0
      (some (goal.at.overflow_add-first c).After-shared_slice_known-4-1),
  c.well_formed,
)

pub overflow_mul-first-2 : goal.overflow_mul-first-2
overflow_mul-first-2 c = omega (
  arith,
  z_in_lem (goal.at.overflow_mul-first-2 c).After-shared_slice_known-4-1 0
      (some (goal.at.overflow_mul-first-2 c).After-shared_slice_known-4-1),
  c.well_formed,
)

pub entry_at-z-requires : goal.entry_at-z-requires
entry_at-z-requires c = (
  few (goal.at.entry_at-z-requires c).After-shared_slice_known-4-1,
  omega (
    arith,
    z_in_lem (goal.at.entry_at-z-requires c).After-shared_slice_known-4-1 0
        (some (goal.at.entry_at-z-requires c).After-shared_slice_known-4-1),
    within (goal.at.entry_at-z-requires
        c).After-shared_slice_known-4-1,
  ),
)

pub loop-e-init : goal.loop-e-init
unfolding x_among z_among share_at
loop-e-init c =
    summed-first c.args.k (x_among c.args.len c.args.s.now c.args.ts.now) (z_among c.args.len c.args.s.now c.args.ts.now c.args.behind) _ _
    (record {
      x-mac = c.entry_at-x.ensures.0;
      x-key = c.entry_at-x.ensures.1;
      z-mac = c.entry_at-z.ensures.0;
      z-key =
          c.entry_at-z.ensures.1;
    })

-- ---- in a turn

next : (c : After-shared_slice_known-in-loop-e-1) → c.loop-e.e + 1 < length c.args.ts.now
next c = omega (arith, c.loop-e-test.true, c.requires.0.count)

-- the e-th and the first lie within
x-there : (c : After-shared_slice_known-in-loop-e-1) → ((get_or c.args.ts.now (c.loop-e.e + 1) 0) * (c.args.len) + record_len c.args.n ≤
    length c.args.s.now)
    × ((get_or c.args.ts.now 0 0) * (c.args.len) + record_len c.args.n ≤ length c.args.s.now)
x-there c =
    let some-here : 0 < length c.args.ts.now = omega (arith, c.requires.0.count) in
    let x-in-here : (e : ℕ) (l : e < length c.args.ts.now) → (get_or c.args.ts.now e 0) * (c.args.len) + record_len c.args.n ≤ length
    c.args.s.now = λ e l. x_fits c.requires.0 e l in
    (x-in-here (c.loop-e.e + 1) (next c), x-in-here 0 (some-here))

z-there : (c : After-shared_slice_known-in-loop-e-1) → (((get_or c.args.ts.now (c.loop-e.e + 1) 0) + c.args.behind) * (c.args.len) +
    record_len c.args.n ≤ length c.args.s.now)
    × (((get_or c.args.ts.now 0 0) + c.args.behind) * (c.args.len) + record_len c.args.n ≤ length c.args.s.now)
z-there c =
    let some-here : 0 < length c.args.ts.now = omega (arith, c.requires.0.count) in
    let z-in-here : (e : ℕ) (l : e < length c.args.ts.now) → ((get_or c.args.ts.now e 0) + c.args.behind) * (c.args.len) + record_len
    c.args.n ≤ length c.args.s.now = λ e l. c.requires.0.inside e l in
    (z-in-here (c.loop-e.e + 1) (next c), z-in-here 0 (some-here))

pub bounds-ts-e : goal.bounds-ts-e
bounds-ts-e c = omega (arith, c.loop-e-test.true, c.requires.0.count)

pub overflow_mul-t : goal.overflow_mul-t
overflow_mul-t c = omega (arith, x-there (goal.at.overflow_mul-t c).After-shared_slice_known-in-loop-e-1, c.well_formed)

pub entry_at-later-requires : goal.entry_at-later-requires
entry_at-later-requires c = (
  few (goal.at.entry_at-later-requires c).After-shared_slice_known-4-1,
  omega (
    arith,
    x-there (goal.at.entry_at-later-requires c).After-shared_slice_known-in-loop-e-1,
    within
        (goal.at.entry_at-later-requires c).After-shared_slice_known-4-1,
  ),
)

pub overflow_add-t-in-loop-e : goal.overflow_add-t-in-loop-e
overflow_add-t-in-loop-e c = omega (
  arith,
  small (goal.at.overflow_add-t-in-loop-e c).After-shared_slice_known-4-1 (c.loop-e.e + 1)
      (next (goal.at.overflow_add-t-in-loop-e c).After-shared_slice_known-in-loop-e-1),
  small
      (goal.at.overflow_add-t-in-loop-e c).After-shared_slice_known-4-1 0 (some (goal.at.overflow_add-t-in-loop-e
      c).After-shared_slice_known-4-1),
  c.well_formed,
)

pub overflow_mul-t-in-loop-e : goal.overflow_mul-t-in-loop-e
overflow_mul-t-in-loop-e c = omega (arith, z-there (goal.at.overflow_mul-t-in-loop-e c).After-shared_slice_known-in-loop-e-1, c.well_formed)

pub entry_at-next-requires : goal.entry_at-next-requires
entry_at-next-requires c = (
  few (goal.at.entry_at-next-requires c).After-shared_slice_known-4-1,
  omega (
    arith,
    z-there (goal.at.entry_at-next-requires c).After-shared_slice_known-in-loop-e-1,
    within
        (goal.at.entry_at-next-requires c).After-shared_slice_known-4-1,
  ),
)

pub loop-e-preserved : goal.loop-e-preserved
unfolding x_among z_among share_at
loop-e-preserved c =
    let now-have : Sums = record { x = c.xor-x.result; z = c.xor-z.result } in
    subst (λ m. Sofar c.args.len c.args.s.now c.args.ts.now c.args.behind c.args.d.now c.args.k m now-have) (sym (add-one c.loop-e.e))
    (summed_turn c.args.k (x_among c.args.len c.args.s.now c.args.ts.now) (z_among c.args.len c.args.s.now c.args.ts.now c.args.behind)
    (λ j. odd (get_or c.args.d.now j 0)) c.loop-e.e (c.loop-e.e + 1) (sym (add-one c.loop-e.e))
    (record { x = c.loop-e.x; z = c.loop-e.z }) now-have
    c.bit.result c.entry_at-later.result.mac.0 c.entry_at-later.result.key.0 c.entry_at-next.result.mac.0
    c.entry_at-next.result.key.0 c.loop-e.invariant
    c.entry_at-later.ensures.0
    c.entry_at-later.ensures.1
    c.entry_at-next.ensures.0
    c.entry_at-next.ensures.1
    c.bit.ensures c.xor-x.ensures.0 c.xor-x.ensures.1
    (c.xor-z.ensures.0 ∙ ap₂ blocks.op c.xor.ensures.0 c.times.ensures.0)
    (c.xor-z.ensures.1 ∙ ap₂ blocks.op c.xor.ensures.1 c.times.ensures.1))

pub returns : goal.returns
returns c =
    subst (λ m. Sofar c.args.len c.args.s.now c.args.ts.now c.args.behind c.args.d.now c.args.k m
    (record { x = c.loop-e.x; z = c.loop-e.z }))
    (let q : c.loop-e.e ≡ length c.args.d.now = omega arith in q) c.loop-e.invariant
