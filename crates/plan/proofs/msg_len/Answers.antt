-- `plan::msg_len` meets its contract.
use Rattle.lists.specs.Kit.{refl}
use Rattle.plan.specs.Plan.{msg_len}
use Rattle.plan.specs.PlanLaws.{listed}
use Rattle.plan.proofs.msg_len.Goals as goal

pub list_len-requires : goal.list_len-requires
list_len-requires c =
    rw (c.count_due.ensures, c.kind_of.ensures) (listed c.args.n c.args.l c.requires c.args.k)

pub returns : goal.returns
unfolding msg_len
returns c = rw (c.list_len.ensures, c.count_due.ensures, c.kind_of.ensures) refl
