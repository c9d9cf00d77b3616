use Rattle.lists.specs.Kit.{sym, ap, ◌∙◌}
use Rattle.refusals.specs.Reason.{code_of, number, number-some}
use Rattle.interface.specs.InterfaceLaws.{sum-refused, sum_is}
use Rattle.interface.proofs.sum.Goals as goal

pub returns-in-Err : goal.returns-in-Err
returns-in-Err c =
    sum-refused c.args.counts.now (number c.in-Err.reason) c.packed_refusal.result (sym (ap code_of c.in-Err.is) ∙ c.fault.ensures)
    (number-some c.in-Err.reason) c.packed_refusal.ensures

pub returns-in-Ok : goal.returns-in-Ok
returns-in-Ok c =
    sum_is c.args.counts.now (code_of c.fault.result) c.sum.result c.fault.ensures (ap code_of c.in-Ok.is) c.sum.ensures
