use Rattle.std.proofs.Common.{sym, ◌∙◌}
use Rattle.plan.specs.PlanLaws.{in-range-true}
use Rattle.sessions.proofs.boxes.message_len.Goals as goal

pub msg_len-requires : goal.msg_len-requires
msg_len-requires c = in-range-true _ _ (sym c.in_range.ensures ∙ c.if-in_range.true)
