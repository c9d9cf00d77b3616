-- `admit::lengths` meets its contract.
use Rattle.lists.specs.Kit.{refl}
use Rattle.plan.specs.PlanLaws.{in_range_lem}
use Rattle.admit.specs.Admit.{lengths_fit}
use Rattle.admit.proofs.lengths.Goals as goal

pub returns : goal.returns
unfolding lengths_fit
returns c =
    rw (c.work_len-work_due.ensures, c.out_len-out_due.ensures, in_range_lem c.args.n c.args.l c.requires) refl
