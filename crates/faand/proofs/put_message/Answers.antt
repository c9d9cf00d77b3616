use Rattle.std.specs.Prelude.{◌≡◌, ◌+◌, ◌-◌, ◌*◌, ◌<◌, ◌≤◌}
use Rattle.lists.specs.Kit.{refl, sym, ◌∙◌, ℕ, arith, length}
use Rattle.encode.specs.Stretch.{stretch-count, stretch-self, even-turn, even-end, in_list}
use Rattle.rounds.specs.Loops.{lent-part}
use Rattle.rounds.specs.Beaver as R
use Rattle.faand.specs.ItemLaws.{item, length-item}
use Rattle.faand.proofs.put_message.Goals as goal
use Rattle.faand.proofs.put_message.Goals.{In-loop-j, Start}

-- item j of the message

each : (c : Start) → (j : ℕ) → j < c.args.f.l → length ((item c.args.f c.args.work.now c.args.k) j) ≡ 34
each c j h = length-item _ _ _ _

pub loop-j-init : goal.loop-j-init
loop-j-init c =
    let w = stretch-count c.args.f.l (item c.args.f c.args.work.now c.args.k) c.args.out.now c.put_count.new.out (omega (arith, c.requires.k_lt_n.1))
    c.put_count.ensures in
    (w.same ∙ c.requires.k_lt_n.1, stretch-self c.args.f.l (item c.args.f c.args.work.now c.args.k) 0 8 _ _ w)

-- ---- in a turn

-- item j ends within
inside : (c : In-loop-j) → 8 + c.loop-j.j * 34 + 34 ≤ length c.loop-j.out
inside c =
    omega (
      arith,
      c.loop-j.invariant.1.same,
      c.loop-j.invariant.0,
      in_list c.loop-j.j c.args.f.l 34
          c.loop-j-test.true,
    )

pub slice_bounds-put_item-end : goal.slice_bounds-put_item-end
slice_bounds-put_item-end c = inside (goal.at.slice_bounds-put_item-end c).In-loop-j

pub put_item-requires : goal.put_item-requires
put_item-requires c =
    record { work = (c.requires.work.0, c.loop-j-test.true, c.requires.work.1); k_lt_n = (c.requires.k_lt_n.0, lent-part (8 + c.loop-j.j * 34) 34 34 c.loop-j.out refl (inside (goal.at.put_item-requires c).In-loop-j)) }

pub loop-j-preserved : goal.loop-j-preserved
loop-j-preserved c = (
  c.loop-j.invariant.0,
  even-turn c.args.f.l (item c.args.f c.args.work.now c.args.k) 34 (each (goal.at.loop-j-preserved c).Start) c.loop-j.j (8 + c.loop-j.j * 34 + 34) _ c.loop-j.out c.put_item.new.out c.loop-j.invariant.0
      c.loop-j-test.true c.loop-j.invariant.1
      c.put_item.ensures refl,
)

pub shape_of-out : goal.shape_of-out
shape_of-out c =
    c.loop-j.invariant.1.same ∙ c.loop-j.invariant.0 ∙ sym c.requires.k_lt_n.1

pub returns : goal.returns
unfolding R.faand_msg
returns c =
    even-end c.args.f.l (item c.args.f c.args.work.now c.args.k) 34 (each (goal.at.returns c).Start) c.loop-j.j _ c.loop-j.out c.loop-j.invariant.0 c.loop-j.invariant.1 (omega arith)

pub overflow_mul-a : goal.overflow_mul-a
overflow_mul-a c = omega (arith, slice_bounds-put_item-end c)

pub overflow_add-a : goal.overflow_add-a
overflow_add-a c = omega (arith, slice_bounds-put_item-end c)

pub overflow_add-e : goal.overflow_add-e
overflow_add-e c = omega (arith, slice_bounds-put_item-end c)
