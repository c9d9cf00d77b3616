use Rattle.std.specs.Prelude.{◌≡◌, ◌+◌, ◌-◌, ◌*◌, ◌<◌, ◌≤◌}
use Rattle.lists.specs.Kit.{refl, ap, ◌∙◌, ℕ, arith, length}
use Rattle.lists.specs.Rows.{even-zero, even-in, even-put, even-end}
use Rattle.block.specs.Block.{bytes_of}
use Rattle.block.specs.Trip.{length-bytes_of}
use Rattle.share.specs.Record.{record_len}
use Rattle.plan.specs.Plan.{leaky}
use Rattle.engine.specs.Area.{to_others, length-to_others}
use Rattle.rounds.specs.Loops.{lent-part}
use Rattle.area.specs.Positions.{position-most, x_in_lem}
use Rattle.haand_hash.specs.Window.{part_of}
use Rattle.haand_hash.proofs.gather.Goals as goal
use Rattle.haand_hash.proofs.gather.Goals.{In-loop-p, Start}

-- ---- of a call

long : (c : Start) → (p : ℕ) → length (to_others c.args.f.n c.args.f.i (λ k. bytes_of (part_of c.args.keys c.args.recs.now
    ((c.args.t + p) * record_len c.args.f.n) k))) ≡ ((c.args.f.n - 1) * 16)
long c p =
    length-to_others 16 c.args.f.n c.args.f.i (λ k. bytes_of (part_of c.args.keys c.args.recs.now ((c.args.t + p) * record_len
    c.args.f.n) k))
    (λ k h ne. length-bytes_of (part_of c.args.keys c.args.recs.now ((c.args.t + p) * record_len c.args.f.n) k))

pub loop-p-init : goal.loop-p-init
loop-p-init c =
    even-zero (λ p. to_others c.args.f.n c.args.f.i (λ k. bytes_of (part_of c.args.keys c.args.recs.now
    ((c.args.t + p) * record_len c.args.f.n) k))) ((c.args.f.n - 1) * 16) c.args.out.now

-- ---- in a turn

part_in : (c : In-loop-p) → (c.loop-p.p) * ((c.args.f.n - 1) * 16) + ((c.args.f.n - 1) * 16) ≤ length c.loop-p.out
part_in c =
    let e = even-in (λ p. to_others c.args.f.n c.args.f.i (λ k. bytes_of (part_of c.args.keys c.args.recs.now
    ((c.args.t + p) * record_len c.args.f.n) k))) c.args.m ((c.args.f.n - 1) * 16) c.args.out.now c.requires.out_len (c.loop-p.p)
    c.loop-p-test.true in
    omega (arith, e, c.loop-p.invariant.same)

below : (c : In-loop-p) → c.args.t + (c.loop-p.p) < leaky c.args.f.l
below c = omega (arith, c.loop-p-test.true, c.requires.positions.below)

pub overflow_add-t : goal.overflow_add-t
overflow_add-t c = omega (arith, position-most c.args.f c.requires.positions.ranges.range _ (below (goal.at.overflow_add-t c).In-loop-p))

pub put_parts-requires : goal.put_parts-requires
put_parts-requires c =
    record {
      le_n = (
        omega (arith, c.requires.positions.ranges.own),
        (
          c.requires.positions.ranges.range.eight,
          lent-part ((c.loop-p.p) * ((c.args.f.n - 1) * 16)) ((c.args.f.n - 1) * 16) ((c.args.f.n
              - 1) * 16) c.loop-p.out refl (part_in (goal.at.put_parts-requires c).In-loop-p),
        ),
      );
      n_in_bounds = omega (
        arith,
        x_in_lem c.args.f c.args.recs.now c.requires.positions.records (c.args.t + (c.loop-p.p)) (below
            (goal.at.put_parts-requires c).In-loop-p),
        c.x_at.ensures,
      );
    }

pub loop-p-preserved : goal.loop-p-preserved
loop-p-preserved c =
    let k = c.loop-p in
    even-put (λ p. to_others c.args.f.n c.args.f.i (λ k. bytes_of (part_of c.args.keys c.args.recs.now
    ((c.args.t + p) * record_len c.args.f.n) k))) c.args.m ((c.args.f.n - 1) * 16) c.args.out.now c.requires.out_len (c.loop-p.p)
    ((c.loop-p.p) * ((c.args.f.n - 1) * 16) + ((c.args.f.n - 1) * 16)) k.out c.put_parts.new.out
    c.loop-p-test.true k.invariant (long (goal.at.loop-p-preserved c).Start (c.loop-p.p))
    (c.put_parts.ensures ∙ ap (λ at. to_others c.args.f.n c.args.f.i (λ k. bytes_of (part_of c.args.keys c.args.recs.now at k)))
    c.x_at.ensures)
    refl

pub shape_of-out : goal.shape_of-out
shape_of-out c = c.loop-p.invariant.same

pub returns : goal.returns
returns c =
    even-end (λ p. to_others c.args.f.n c.args.f.i (λ k. bytes_of (part_of c.args.keys c.args.recs.now
    ((c.args.t + p) * record_len c.args.f.n) k))) c.args.m ((c.args.f.n - 1) * 16) c.args.out.now c.requires.out_len c.loop-p.p
    c.loop-p.out c.loop-p.invariant (omega arith)

pub overflow_sub-len : goal.overflow_sub-len
overflow_sub-len c = omega (arith, c.requires.positions.ranges.own)

pub overflow_mul-len : goal.overflow_mul-len
overflow_mul-len c = omega (arith, c.requires.positions.ranges.range.eight)

pub overflow_mul-a : goal.overflow_mul-a
overflow_mul-a c = omega (arith, part_in (goal.at.overflow_mul-a c).In-loop-p)

pub overflow_add-e : goal.overflow_add-e
overflow_add-e c = omega (arith, part_in (goal.at.overflow_add-e c).In-loop-p)

pub slice_bounds-put_parts-end : goal.slice_bounds-put_parts-end
slice_bounds-put_parts-end c = part_in (goal.at.slice_bounds-put_parts-end c).In-loop-p

pub x_at-requires : goal.x_at-requires
x_at-requires c = (c.requires.positions.ranges.range, below (goal.at.x_at-requires c).In-loop-p)
