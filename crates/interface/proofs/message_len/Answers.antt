use Rattle.lists.specs.Kit.{refl, sym, ap, ap₂, ◌∙◌}
use Rattle.lists.specs.Pick.{pick}
use Rattle.plan.specs.Plan.{is_round, msg_len}
use Rattle.plan.specs.PlanLaws.{in-range-true}
use Rattle.interface.specs.InterfaceLaws.{message-is}
use Rattle.interface.proofs.message_len.Goals as goal

pub msg_len-requires : goal.msg_len-requires
msg_len-requires c =
    in-range-true c.args.n c.args.l (sym c.in_range.ensures ∙ c.if-in_range.true)

pub returns-then-is_round : goal.returns-then-is_round
returns-then-is_round c =
    ap₂ (λ x y. pick x (pick y c.msg_len.result 0) 0) (sym c.if-in_range.true) (sym c.if-is_round.true)
    ∙ message-is c.args.n c.args.l c.args.round c.msg_len.result c.in_range.result c.is_round.result
    c.in_range.ensures c.is_round.ensures c.msg_len.ensures

pub returns-else-is_round : goal.returns-else-is_round
returns-else-is_round c =
    ap₂ (λ x y. pick x (pick y (msg_len c.args.n c.args.l c.args.round) 0) 0) (sym c.if-in_range.true) (sym c.if-is_round.false)
    ∙ message-is c.args.n c.args.l c.args.round _ c.in_range.result c.is_round.result c.in_range.ensures c.is_round.ensures refl

pub returns-else-in_range : goal.returns-else-in_range
returns-else-in_range c =
    ap (λ x. pick x (pick (is_round c.args.n c.args.round) (msg_len c.args.n c.args.l c.args.round) 0) 0) (sym c.if-in_range.false)
    ∙ message-is c.args.n c.args.l c.args.round _ c.in_range.result _ c.in_range.ensures refl refl
