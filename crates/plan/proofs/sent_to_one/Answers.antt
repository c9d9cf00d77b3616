use Rattle.std.specs.Prelude.{◌+◌}
use Rattle.lists.specs.Kit.{refl, sym, ap, ◌∙◌, arith}
use Rattle.plan.specs.Plan.{sent_up_to}
use Rattle.plan.specs.PlanLaws.{sent-with, sent-without, sent-most, msg-most}
use Rattle.plan.proofs.sent_to_one.Goals as goal
use Rattle.plan.proofs.sent_to_one.Goals.{then-is_round, else-is_round}

pub loop-k-init : goal.loop-k-init
unfolding sent_up_to
loop-k-init c = refl

pub overflow_add-sum : goal.overflow_add-sum
overflow_add-sum c =
    rw (c.loop-k.invariant, c.msg_len-sum.ensures)
    (omega (arith, sent-most c.args.n c.args.l c.requires c.loop-k.k, msg-most c.args.n c.args.l c.requires (c.loop-k.k + 1)))

pub loop-k-preserved : goal.loop-k-preserved
loop-k-preserved c =
    elim c.if-is_round.branch [
      | then-is_round w ↦ w.sum-is
          ∙ sent-with c.args.n c.args.l c.loop-k.k c.loop-k.sum c.loop-k.invariant _ (sym c.is_round.ensures ∙ w.if-is_round.true) w.msg_len-sum.ensures
      | else-is_round w ↦ w.sum-is
          ∙ sent-without c.args.n c.args.l c.loop-k.k c.loop-k.sum c.loop-k.invariant (sym c.is_round.ensures ∙ w.if-is_round.false)
    ]

pub returns : goal.returns
returns c = c.loop-k.invariant ∙ ap (sent_up_to c.args.n c.args.l) (omega arith)
