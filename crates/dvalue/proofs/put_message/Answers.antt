use Rattle.std.specs.Prelude.{◌≡◌, ◌+◌, ◌-◌, ◌*◌, ◌<◌, ◌≤◌}
use Rattle.lists.specs.Kit.{refl, sym, ap, ◌∙◌, ℕ, arith, length, rules}
use native.Mathlib.Nat.{zero-mul}
use borrow.Rule.Slice.PartMut.{put_mid}
use Rattle.lists.specs.Over.{length-take-drop}
use Rattle.encode.specs.Stretch.{Stretch, stretch-count, stretch-self, even-turn, even-end, in_list}
use Rattle.rounds.specs.Buckets as B
use Rattle.dvalue.specs.Dvalues.{length-item}
use Rattle.dvalue.proofs.put_message.Goals as goal
use Rattle.dvalue.proofs.put_message.Invariants.{item}
use Rattle.dvalue.proofs.put_message.Goals.{After-slice_known-2-1, In-loop-j}

-- the count is written

counted : (c : After-slice_known-2-1) → Stretch c.args.f.l (item c.args.f c.args.recs.now c.args.perm.now c.args.k) 0 8 c.args.out.now (put_mid 0 8 c.args.out.now c.put_count.new.out)
counted c =
    stretch-count c.args.f.l (item c.args.f c.args.recs.now c.args.perm.now c.args.k) c.args.out.now c.put_count.new.out (omega (arith, c.requires.k_lt_n))
    c.put_count.ensures

long : (c : After-slice_known-2-1) → length (put_mid 0 8 c.args.out.now c.put_count.new.out) ≡ 8 + c.args.f.l * (c.bucket_len-size.result)
long c = (counted c).same ∙ c.requires.k_lt_n.1 ∙ ap (λ k. 8 + c.args.f.l * k) (sym c.bucket_len-size.ensures)

each : (c : After-slice_known-2-1) → (j : ℕ) → j < c.args.f.l → length ((item c.args.f c.args.recs.now c.args.perm.now c.args.k) j) ≡ (c.bucket_len-size.result)
each c j h = length-item (B.later c.args.f) _ _ ∙ sym c.bucket_len-size.ensures

pub loop-j-init : goal.loop-j-init
loop-j-init c = (rw zero-mul (stretch-self c.args.f.l (item c.args.f c.args.recs.now c.args.perm.now c.args.k) 0 8 c.args.out.now (put_mid 0 8 c.args.out.now c.put_count.new.out) (counted (goal.at.loop-j-init c).After-slice_known-2-1)))

-- bucket j lies within
inside : (c : In-loop-j) → 8 + c.loop-j.j * (c.bucket_len-size.result) + (c.bucket_len-size.result) ≤ length c.loop-j.out
inside c =
    let counted-here : Stretch c.args.f.l (item c.args.f c.args.recs.now c.args.perm.now c.args.k) 0 8 c.args.out.now (put_mid 0 8 c.args.out.now c.put_count.new.out) = stretch-count c.args.f.l (item c.args.f c.args.recs.now c.args.perm.now c.args.k) c.args.out.now c.put_count.new.out (omega (arith, c.requires.k_lt_n))
    c.put_count.ensures in
    let long-here : length (put_mid 0 8 c.args.out.now c.put_count.new.out) ≡ 8 + c.args.f.l * (c.bucket_len-size.result) = (counted-here).same ∙ c.requires.k_lt_n.1 ∙ ap (λ k. 8 + c.args.f.l * k) (sym c.bucket_len-size.ensures) in
    omega (arith, in_list c.loop-j.j c.args.f.l (c.bucket_len-size.result) c.loop-j-test.true, long-here, c.loop-j.invariant.same)

short : (c : In-loop-j) → length c.loop-j.out ≡ length c.args.out.now
short c =
    let counted-here : Stretch c.args.f.l (item c.args.f c.args.recs.now c.args.perm.now c.args.k) 0 8 c.args.out.now (put_mid 0 8 c.args.out.now c.put_count.new.out) = stretch-count c.args.f.l (item c.args.f c.args.recs.now c.args.perm.now c.args.k) c.args.out.now c.put_count.new.out (omega (arith, c.requires.k_lt_n))
    c.put_count.ensures in
    c.loop-j.invariant.same ∙ (counted-here).same

pub overflow_mul-a : goal.overflow_mul-a
overflow_mul-a c = omega (arith, inside (goal.at.overflow_mul-a c).In-loop-j, short (goal.at.overflow_mul-a c).In-loop-j, c.well_formed)

pub overflow_add-a : goal.overflow_add-a
overflow_add-a c = omega (arith, inside (goal.at.overflow_add-a c).In-loop-j, short (goal.at.overflow_add-a c).In-loop-j, c.well_formed)

pub overflow_add-e : goal.overflow_add-e
overflow_add-e c = omega (arith, inside (goal.at.overflow_add-e c).In-loop-j, short (goal.at.overflow_add-e c).In-loop-j, c.well_formed)

pub slice_bounds-put_bucket-end : goal.slice_bounds-put_bucket-end
slice_bounds-put_bucket-end c = inside (goal.at.slice_bounds-put_bucket-end c).In-loop-j

pub put_bucket-requires : goal.put_bucket-requires
put_bucket-requires c =
    record {
      ranged = c.requires.ranged;
      permuted = c.requires.permuted;
      j_lt_l = (
        c.loop-j-test.true,
        c.requires.k_lt_n.0,
        rw length-take-drop
            (omega (arith, inside (goal.at.put_bucket-requires c).In-loop-j, c.bucket_len-size.ensures)),
      );
    }

pub loop-j-preserved : goal.loop-j-preserved
loop-j-preserved c = (even-turn c.args.f.l (item c.args.f c.args.recs.now c.args.perm.now c.args.k) (c.bucket_len-size.result) (each (goal.at.loop-j-preserved c).After-slice_known-2-1) c.loop-j.j (8 + c.loop-j.j * (c.bucket_len-size.result) + (c.bucket_len-size.result)) (put_mid 0 8 c.args.out.now c.put_count.new.out) c.loop-j.out
    c.put_bucket.new.out (long (goal.at.loop-j-preserved c).After-slice_known-2-1) c.loop-j-test.true
    c.loop-j.invariant c.put_bucket.ensures refl)

pub shape_of-out : goal.shape_of-out
shape_of-out c = c.loop-j.invariant.same ∙ (counted (goal.at.shape_of-out c).After-slice_known-2-1).same

pub returns : goal.returns
unfolding B.dvalue_msg
returns c =
    even-end c.args.f.l (item c.args.f c.args.recs.now c.args.perm.now c.args.k) (c.bucket_len-size.result) (each (goal.at.returns c).After-slice_known-2-1) c.loop-j.j (put_mid 0 8 c.args.out.now c.put_count.new.out) c.loop-j.out (long (goal.at.returns c).After-slice_known-2-1)
    c.loop-j.invariant (omega arith)
