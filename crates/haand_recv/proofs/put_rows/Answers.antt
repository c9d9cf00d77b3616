use Rattle.std.specs.Prelude.{◌≡◌, ◌+◌, ◌-◌, ◌*◌, ◌≤◌}
use Rattle.lists.specs.Kit.{refl, ap, ap₂, ◌∙◌, arith, length, take, drop}
use Rattle.lists.specs.Over.{written-zero, written-turn, written-end, in-chunks}
use Rattle.algebra.specs.Group.{addb, xor-addb}
use Rattle.share.specs.Record.{record_len, mac_at}
use Rattle.encode.specs.Encode.{bit_block}
use Rattle.plan.specs.PlanLaws.{leaky-most}
use Rattle.rounds.specs.Loops.{lent-part}
use Rattle.rounds.specs.Mail.{letter}
use Rattle.rounds.specs.Haand as R
use Rattle.rounds.specs.HaandLaws.{length-z_row}
use Rattle.haand_hash.specs.Window.{Asked, hashes}
use Rattle.haand_hash.specs.WindowLaws.{lent-hashes, length-hashes}
use Rattle.haand_recv.specs.Received.{z-row-is}
use Rattle.haand_recv.proofs.put_rows.Goals as goal
use Rattle.haand_recv.proofs.put_rows.Goals.{In-loop-p}

-- ---- of a call

pub loop-p-init : goal.loop-p-init
loop-p-init c = written-zero (λ p. R.z_row (c.args.f) c.args.masks.now c.args.recs.now (letter c.args.incoming.now c.args.mail) (c.args.t
    + p)) c.args.out.now

-- ---- in a turn

hash-in : (c : In-loop-p) → (c.loop-p.p) * ((c.args.f.n - 1) * 32) + ((c.args.f.n - 1) * 32) ≤ length c.args.hashes.now
hash-in c = omega (
  arith,
  in-chunks (c.loop-p.p) c.args.m ((c.args.f.n - 1) * 32) c.loop-p-test.true,
  c.requires.positions.1,
  c.requires.hashed.long,
)

row_in : (c : In-loop-p) → (c.loop-p.p) * 17 + 17 ≤ length c.loop-p.out
row_in c = omega (arith, c.loop-p-test.true, c.loop-p.invariant.same, c.requires.positions.2)

asked : (c : In-loop-p) → Asked c.args.f (c.args.t + (c.loop-p.p)) c.args.recs.now
asked c =
    let own = c.requires.positions.0 in
    record { ranges = own.ranges; records = own.records; below = omega (arith, c.loop-p-test.true, own.below) }

-- the hashes of the position
lent : (c : In-loop-p) → take ((c.loop-p.p) * ((c.args.f.n - 1) * 32) + ((c.args.f.n - 1) * 32) - (c.loop-p.p) * ((c.args.f.n - 1) * 32))
    (drop ((c.loop-p.p) * ((c.args.f.n - 1) * 32)) c.args.hashes.now)
    ≡ hashes c.args.f (mac_at c.args.recs.now
    ((c.args.t + (c.loop-p.p)) * record_len c.args.f.n))
lent c = lent-hashes c.requires.hashed (c.loop-p.p) ((c.loop-p.p) * ((c.args.f.n - 1) * 32)) ((c.loop-p.p) * ((c.args.f.n - 1) * 32) +
    ((c.args.f.n - 1) * 32)) c.loop-p-test.true (omega arith) refl

pub sums-s-requires : goal.sums-s-requires
sums-s-requires c = (
  c.requires.positions.0.ranges.own,
  ap length (lent (goal.at.sums-s-requires c).In-loop-p) ∙ length-hashes c.args.f
      (mac_at c.args.recs.now ((c.args.t + (c.loop-p.p)) * record_len c.args.f.n)),
)

pub told-z-requires : goal.told-z-requires
told-z-requires c = record {
  asked = asked (goal.at.told-z-requires c).In-loop-p;
  masks_len = c.requires.masks_len;
  arrived =
      c.requires.arrived;
}

pub loop-p-preserved : goal.loop-p-preserved
loop-p-preserved c =
    written-turn (λ p. R.z_row (c.args.f) c.args.masks.now c.args.recs.now (letter c.args.incoming.now c.args.mail) (c.args.t + p))
    (c.loop-p.p) ((c.loop-p.p) * 17) ((c.loop-p.p) * 17 + 17) (((c.loop-p.p) + 1) * 17) c.args.out.now c.loop-p.out
    c.put_bit_block.new.out c.loop-p.invariant
    (c.put_bit_block.ensures
    ∙ ap₂ bit_block (xor-addb c.sums-s.result.1 c.told-z.result ∙ ap₂ addb c.sums-s.ensures.1 c.told-z.ensures)
    c.sums-s.ensures.0
    ∙ z-row-is (c.args.f) c.args.masks.now c.args.recs.now (letter c.args.incoming.now c.args.mail) (c.args.t + (c.loop-p.p)) _
    c.requires.positions.0.ranges.own (lent (goal.at.loop-p-preserved c).In-loop-p))
    (omega (
      arith,
      length-z_row (c.args.f) c.args.masks.now c.args.recs.now (letter c.args.incoming.now c.args.mail) (c.args.t +
          (c.loop-p.p)),
    ))
    (omega (arith, row_in (goal.at.loop-p-preserved c).In-loop-p, c.loop-p.invariant.same)) (omega arith)

pub shape_of-out : goal.shape_of-out
shape_of-out c = c.loop-p.invariant.same

pub returns : goal.returns
returns c =
    let e : c.loop-p.p ≡ c.args.m = omega arith in
    written-end (λ p. R.z_row (c.args.f) c.args.masks.now c.args.recs.now (letter c.args.incoming.now c.args.mail) (c.args.t + p))
    c.loop-p.p c.args.m (c.loop-p.p * 17) c.args.out.now c.loop-p.out c.loop-p.invariant e (omega (arith, c.requires.positions.2, e))

pub overflow_sub-size : goal.overflow_sub-size
overflow_sub-size c = omega (arith, c.requires.positions.0.ranges.own)

pub overflow_mul-size : goal.overflow_mul-size
overflow_mul-size c = omega (arith, c.requires.positions.0.ranges.range.eight)

pub overflow_mul-a : goal.overflow_mul-a
overflow_mul-a c = omega (arith, hash-in (goal.at.overflow_mul-a c).In-loop-p)

pub overflow_add-b : goal.overflow_add-b
overflow_add-b c = omega (arith, hash-in (goal.at.overflow_add-b c).In-loop-p)

pub slice_bounds-sums-end : goal.slice_bounds-sums-end
slice_bounds-sums-end c = hash-in (goal.at.slice_bounds-sums-end c).In-loop-p

pub overflow_add-t : goal.overflow_add-t
overflow_add-t c = omega (
  arith,
  (asked (goal.at.overflow_add-t c).In-loop-p).below,
  leaky-most c.args.f.l (asked (goal.at.overflow_add-t
      c).In-loop-p).ranges.range.most,
)

pub overflow_mul-x : goal.overflow_mul-x
overflow_mul-x c = omega (arith, row_in (goal.at.overflow_mul-x c).In-loop-p)

pub overflow_add-y : goal.overflow_add-y
overflow_add-y c = omega (arith, row_in (goal.at.overflow_add-y c).In-loop-p)

pub slice_bounds-put_bit_block-end : goal.slice_bounds-put_bit_block-end
slice_bounds-put_bit_block-end c = row_in (goal.at.slice_bounds-put_bit_block-end c).In-loop-p

pub put_bit_block-requires : goal.put_bit_block-requires
put_bit_block-requires c = lent-part ((c.loop-p.p) * 17) 17 17 c.loop-p.out refl (row_in (goal.at.put_bit_block-requires c).In-loop-p)
