use Rattle.std.specs.Prelude.{◌≡◌, ◌+◌, ◌-◌, ◌*◌, ◌≤◌}
use Rattle.lists.specs.Kit.{refl, sym, ap, subst, arith, length}
use borrow.Rule.Slice.PartMut.{put_mid}
use Rattle.lists.specs.Over.{Written, in-chunks}
use Rattle.lists.specs.Rows.{even-zero, even-put, even-end}
use Rattle.plan.specs.PlanLaws.{leaky-most}
use Rattle.rounds.specs.Area.{leaky_len}
use Rattle.rounds.specs.Loops.{lent-part}
use Rattle.rounds.specs.Haand as R
use Rattle.rounds.specs.HaandLaws.{length-leaky_row}
use Rattle.haand_hash.specs.Window.{Asked}
use Rattle.haand_hash.specs.WindowLaws.{lent-hashes}
use Rattle.haand_rows.proofs.put_rows.Goals as goal
use Rattle.haand_rows.proofs.put_rows.Goals.{In-loop-p}

-- ---- of a call

pub loop-p-init : goal.loop-p-init
loop-p-init c =
    even-zero (λ p. R.leaky_row (c.args.f) c.args.delta.0 c.args.recs.now (c.args.t + p))
    (leaky_len c.args.f.n) c.args.out.now

-- ---- in a turn

len_is : (c : In-loop-p) → (c.leaky_len-len.result) ≡ (leaky_len c.args.f.n)
len_is c = c.leaky_len-len.ensures

row_in : (c : In-loop-p) → (c.loop-p.p) * (c.leaky_len-len.result) + (c.leaky_len-len.result) ≤ length c.loop-p.out
row_in c =
    omega (
      arith,
      in-chunks (c.loop-p.p) c.args.m (leaky_len c.args.f.n) c.loop-p-test.true,
      c.loop-p.invariant.same,
      c.requires.positions.2,
      ap
          (λ m. (c.loop-p.p) * m) (len_is c),
      len_is c,
    )

hash-in : (c : In-loop-p) → 1024 + (c.loop-p.p) * ((c.args.f.n - 1) * 32) + ((c.args.f.n - 1) * 32) ≤ length c.args.hashes.now
hash-in c = omega (
  arith,
  in-chunks (c.loop-p.p) c.args.m ((c.args.f.n - 1) * 32) c.loop-p-test.true,
  c.requires.positions.1,
  c.requires.hashed.long,
)

asked : (c : In-loop-p) → Asked c.args.f (c.args.t + (c.loop-p.p)) c.args.recs.now
asked c =
    let own = c.requires.positions.0 in
    record { ranges = own.ranges; records = own.records; below = omega (arith, c.loop-p-test.true, own.below) }

pub put_row-requires : goal.put_row-requires
put_row-requires c =
    record {
      asked = (
        asked (goal.at.put_row-requires c).In-loop-p,
        lent-part ((c.loop-p.p) * (c.leaky_len-len.result)) (c.leaky_len-len.result) (leaky_len c.args.f.n) c.loop-p.out (len_is
            (goal.at.put_row-requires c).In-loop-p) (row_in (goal.at.put_row-requires c).In-loop-p),
      );
      keys_value = lent-hashes c.requires.hashed (c.loop-p.p) ((c.loop-p.p) * ((c.args.f.n - 1) * 32)) ((c.loop-p.p) *
          ((c.args.f.n - 1) * 32) + ((c.args.f.n - 1) * 32)) c.loop-p-test.true (omega arith) refl;
      sums_value = lent-hashes c.requires.hashed_2 (c.loop-p.p) (1024 + (c.loop-p.p) * ((c.args.f.n - 1) * 32)) (1024 + (c.loop-p.p) *
          ((c.args.f.n - 1) * 32) + ((c.args.f.n - 1) * 32)) c.loop-p-test.true refl refl;
    }

pub loop-p-preserved : goal.loop-p-preserved
loop-p-preserved c =
    let long : length (R.leaky_row (c.args.f) c.args.delta.0 c.args.recs.now (c.args.t + (c.loop-p.p))) ≡ (leaky_len c.args.f.n) =
    length-leaky_row (c.args.f) c.args.delta.0 c.args.recs.now (c.args.t + (c.loop-p.p)) in
    subst (λ z. Written (λ p. R.leaky_row (c.args.f) c.args.delta.0 c.args.recs.now (c.args.t + p)) ((c.loop-p.p) + 1)
    (((c.loop-p.p) + 1) * (leaky_len c.args.f.n)) c.args.out.now
    (put_mid ((c.loop-p.p) * z) ((c.loop-p.p) * z + z - (c.loop-p.p) * z) c.loop-p.out c.put_row.new.out)) (sym (len_is
    (goal.at.loop-p-preserved c).In-loop-p))
    (even-put (λ p. R.leaky_row (c.args.f) c.args.delta.0 c.args.recs.now (c.args.t + p)) c.args.m
    (leaky_len c.args.f.n) c.args.out.now c.requires.positions.2 (c.loop-p.p) ((c.loop-p.p) * (leaky_len c.args.f.n) +
    (leaky_len c.args.f.n)) c.loop-p.out
    c.put_row.new.out c.loop-p-test.true c.loop-p.invariant long c.put_row.ensures refl)

pub shape_of-out : goal.shape_of-out
shape_of-out c = c.loop-p.invariant.same

pub returns : goal.returns
returns c =
    even-end (λ p. R.leaky_row (c.args.f) c.args.delta.0 c.args.recs.now (c.args.t + p)) c.args.m
    (leaky_len c.args.f.n) c.args.out.now c.requires.positions.2 c.loop-p.p c.loop-p.out c.loop-p.invariant (omega arith)

pub overflow_sub-size : goal.overflow_sub-size
overflow_sub-size c = omega (arith, c.requires.positions.0.ranges.own)

pub overflow_mul-x : goal.overflow_mul-x
overflow_mul-x c = omega (arith, row_in (goal.at.overflow_mul-x c).In-loop-p)

pub overflow_add-y : goal.overflow_add-y
overflow_add-y c = omega (arith, row_in (goal.at.overflow_add-y c).In-loop-p)

pub overflow_mul-a : goal.overflow_mul-a
overflow_mul-a c = omega (arith, hash-in (goal.at.overflow_mul-a c).In-loop-p)

pub overflow_add-b : goal.overflow_add-b
overflow_add-b c = omega (arith, hash-in (goal.at.overflow_add-b c).In-loop-p)

pub overflow_add-c : goal.overflow_add-c
overflow_add-c c = omega (arith, hash-in (goal.at.overflow_add-c c).In-loop-p)

pub overflow_add-d : goal.overflow_add-d
overflow_add-d c = omega (arith, hash-in (goal.at.overflow_add-d c).In-loop-p)

pub slice_bounds-put_row-end : goal.slice_bounds-put_row-end
slice_bounds-put_row-end c = row_in (goal.at.slice_bounds-put_row-end c).In-loop-p

pub slice_bounds-put_row-end-in-loop-p : goal.slice_bounds-put_row-end-in-loop-p
slice_bounds-put_row-end-in-loop-p c = omega (arith, hash-in (goal.at.slice_bounds-put_row-end-in-loop-p c).In-loop-p)

pub slice_bounds-put_row-end-in-loop-p-2 : goal.slice_bounds-put_row-end-in-loop-p-2
slice_bounds-put_row-end-in-loop-p-2 c = hash-in (goal.at.slice_bounds-put_row-end-in-loop-p-2 c).In-loop-p

pub overflow_add-t : goal.overflow_add-t
overflow_add-t c = omega (
  arith,
  (asked (goal.at.overflow_add-t c).In-loop-p).below,
  leaky-most c.args.f.l (asked (goal.at.overflow_add-t c).In-loop-p).ranges.range.most,
)
