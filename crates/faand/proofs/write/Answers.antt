use Rattle.std.specs.Prelude.{◌≡◌, ◌+◌, ◌-◌, ◌*◌, ◌<◌, ◌≤◌}
use Rattle.lists.specs.Kit.{refl, sym, ap, ◌∙◌, arith, length}
use Rattle.engine.specs.Area.{nth-below}
use Rattle.rounds.specs.Loops.{lent-part, sent-none, sent-in, sent_back, sent-end}
use Rattle.faand.specs.ItemLaws.{message, told_is}
use Rattle.faand.proofs.write.Goals as goal
use Rattle.faand.proofs.write.Goals.{At-loop-q}

-- the message to each

pub loop-q-init : goal.loop-q-init
loop-q-init c =
    (sent-none c.args.f.n c.args.f.i c.msg_len-len.result (message c.args.f c.args.work.now) c.args.out.now)

long : (c : At-loop-q) → length c.args.out.now ≡ (c.args.f.n - 1) * (c.msg_len-len.result)
long c = c.requires.out_len ∙ ap (λ k. (c.args.f.n - 1) * k) (sym c.msg_len-len.ensures)

part_in : (c : At-loop-q) → c.loop-q.q < c.args.f.n - 1 → c.loop-q.q * (c.msg_len-len.result) + (c.msg_len-len.result) ≤ length c.loop-q.out
part_in c h =
    sent-in c.args.f.n c.args.f.i (c.msg_len-len.result) (message c.args.f c.args.work.now) (c.msg_len-len.result) c.loop-q.q c.args.out.now c.loop-q.out refl (long c) c.loop-q.invariant h

pub put_message-requires : goal.put_message-requires
put_message-requires c =
    let m = (c.msg_len-len.result) in record {
      work = (c.requires.work, c.sections-at.ensures);
      k_lt_n = (
        omega (arith, c.other-k.ensures, nth-below c.args.f.n c.args.f.i c.loop-q.q c.loop-q-test.true),
        lent-part (c.loop-q.q * m) m _ c.loop-q.out (c.msg_len-len.ensures ∙ told_is c.args.f) (part_in (goal.at.put_message-requires c).At-loop-q c.loop-q-test.true),
      );
    }

pub loop-q-preserved : goal.loop-q-preserved
loop-q-preserved c = (sent_back c.args.f.n c.args.f.i (c.msg_len-len.result) (message c.args.f c.args.work.now) (c.msg_len-len.result) c.loop-q.q c.args.out.now c.loop-q.out refl (long (goal.at.loop-q-preserved c).At-loop-q) c.loop-q.invariant
    c.other-k.result c.put_message.new.out c.loop-q-test.true c.other-k.ensures
    c.put_message.ensures c.put_message.auto.out)

pub shape_of-out : goal.shape_of-out
shape_of-out c = c.loop-q.invariant.same

pub returns : goal.returns
returns c =
    sent-end c.args.f.n c.args.f.i (c.msg_len-len.result) (message c.args.f c.args.work.now) (c.msg_len-len.result) c.loop-q.q c.args.out.now c.loop-q.out refl (long (goal.at.returns c).At-loop-q) c.loop-q.invariant
    (omega arith)

pub overflow_mul-a : goal.overflow_mul-a
overflow_mul-a c = omega (arith, part_in (goal.at.overflow_mul-a c).At-loop-q c.loop-q-test.true)

pub overflow_add-e : goal.overflow_add-e
overflow_add-e c = omega (arith, part_in (goal.at.overflow_add-e c).At-loop-q c.loop-q-test.true)

pub other-k-requires : goal.other-k-requires
other-k-requires c = omega (arith, c.loop-q-test.true, c.requires.work.ranges.range.eight)

pub slice_bounds-put_message-end : goal.slice_bounds-put_message-end
slice_bounds-put_message-end c = part_in (goal.at.slice_bounds-put_message-end c).At-loop-q c.loop-q-test.true
