use Rattle.std.specs.Prelude.{◌≡◌, ◌+◌, ◌-◌, ◌*◌, ◌≤◌}
use Rattle.lists.specs.Kit.{sym, ap, ◌∙◌, arith, length}
use Rattle.lists.specs.Over.{in-chunks}
use Rattle.lists.specs.Rows.{even-zero, even-turn, even-end}
use Rattle.share.specs.Lent.{lent_len}
use Rattle.rounds.specs.Area.{at}
use Rattle.rounds.specs.Loops.{lent-part}
use Rattle.rounds.specs.Mail.{letter}
use Rattle.rounds.specs.Beaver as R
use Rattle.faand.specs.ItemLaws.{told, item_in, arrived}
use Rattle.results.specs.FinishLaws.{result, result-told}
use Rattle.results.proofs.results.Goals as goal
use Rattle.results.proofs.results.Goals.{After-lent_len-len, In-loop-j}

whole : (c : After-lent_len-len) → length c.args.out.now ≡ c.args.f.l * (c.lent_len-len.result)
whole c = c.requires.out_len ∙ ap (λ m. c.args.f.l * m) (sym c.lent_len-len.ensures)

pub loop-j-init : goal.loop-j-init
loop-j-init c = (even-zero (result c.args.f c.args.work.now (letter c.args.incoming.now c.args.mail)) (c.lent_len-len.result) c.args.out.now)

-- ---- in a turn

inside : (c : In-loop-j) → 8 + c.loop-j.j * 34 + 34 ≤ told c.args.f
inside c = item_in c.args.f c.loop-j.j (told c.args.f) c.loop-j-test.true (omega arith)

most : (c : In-loop-j) → told c.args.f ≤ 8 + 300000 * 34
most c = omega (arith, c.requires.work.ranges.range.most)

part_in : (c : In-loop-j) → c.loop-j.j * (c.lent_len-len.result) + (c.lent_len-len.result) ≤ length c.loop-j.out
part_in c =
    let whole-here : length c.args.out.now ≡ c.args.f.l * (c.lent_len-len.result) = c.requires.out_len ∙ ap (λ m. c.args.f.l * m) (sym c.lent_len-len.ensures) in
    omega (arith, whole-here, in-chunks c.loop-j.j c.args.f.l (c.lent_len-len.result) c.loop-j-test.true, c.loop-j.invariant.same)

pub put_result-requires : goal.put_result-requires
put_result-requires c =
    record {
      work = (c.requires.work, c.loop-j-test.true, c.sections-at.ensures);
      out_len = lent-part (c.loop-j.j * (c.lent_len-len.result)) (c.lent_len-len.result) (lent_len c.args.f.n) c.loop-j.out c.lent_len-len.ensures
          (part_in (goal.at.put_result-requires c).In-loop-j);
    }

pub loop-j-preserved : goal.loop-j-preserved
loop-j-preserved c = (even-turn (result c.args.f c.args.work.now (letter c.args.incoming.now c.args.mail)) c.args.f.l (c.lent_len-len.result) c.args.out.now (whole (goal.at.loop-j-preserved c).After-lent_len-len) c.loop-j.j c.loop-j.out c.put_result.new.out c.loop-j-test.true
    c.loop-j.invariant
    (result-told c.args.f c.args.work.now (letter c.args.incoming.now c.args.mail) c.loop-j.j c.told_sum-d.result c.told_sum-e.result
    c.put_result.new.out
    c.told_sum-d.ensures c.told_sum-e.ensures c.put_result.ensures)
    c.put_result.auto.out)

pub shape_of-out : goal.shape_of-out
shape_of-out c = c.loop-j.invariant.same

pub returns : goal.returns
unfolding R.results
returns c =
    even-end (result c.args.f c.args.work.now (letter c.args.incoming.now c.args.mail)) c.args.f.l (c.lent_len-len.result) c.args.out.now (whole (goal.at.returns c).After-lent_len-len) c.loop-j.j c.loop-j.out c.loop-j.invariant (omega arith)

pub overflow_mul-i : goal.overflow_mul-i
overflow_mul-i c = omega (arith, inside (goal.at.overflow_mul-i c).In-loop-j, most (goal.at.overflow_mul-i c).In-loop-j)

pub overflow_add-i : goal.overflow_add-i
overflow_add-i c = omega (arith, inside (goal.at.overflow_add-i c).In-loop-j, most (goal.at.overflow_add-i c).In-loop-j)

pub told_sum-d-requires : goal.told_sum-d-requires
told_sum-d-requires c = record { at_bound = omega (arith, inside (goal.at.told_sum-d-requires c).In-loop-j); arrived = arrived c.requires.received }

pub overflow_add-i-in-loop-j : goal.overflow_add-i-in-loop-j
overflow_add-i-in-loop-j c = omega (arith, inside (goal.at.overflow_add-i-in-loop-j c).In-loop-j, most (goal.at.overflow_add-i-in-loop-j c).In-loop-j)

pub told_sum-e-requires : goal.told_sum-e-requires
told_sum-e-requires c = record { at_bound = omega (arith, inside (goal.at.told_sum-e-requires c).In-loop-j); arrived = arrived c.requires.received }

pub overflow_mul-from : goal.overflow_mul-from
overflow_mul-from c = omega (arith, part_in (goal.at.overflow_mul-from c).In-loop-j)

pub overflow_add-to : goal.overflow_add-to
overflow_add-to c = omega (arith, part_in (goal.at.overflow_add-to c).In-loop-j)

pub slice_bounds-put_result-end : goal.slice_bounds-put_result-end
slice_bounds-put_result-end c = part_in (goal.at.slice_bounds-put_result-end c).In-loop-j
