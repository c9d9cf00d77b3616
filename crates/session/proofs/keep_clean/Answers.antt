use Rattle.lists.specs.Kit.{sym, ap, ◌∙◌}
use Rattle.refusals.specs.Reason.{number-some}
use Rattle.broadcast.specs.Told.{told}
use Rattle.session.specs.SessionLaws.{zero-takes, other-leaves}
use Rattle.session.proofs.keep_clean.Goals as goal

pub keep-requires : goal.keep-requires
keep-requires c =
    record { work = c.requires.fact.work; received = c.requires.fact.received; mail_value = rw c.in-Ok.is at c.requires.found_value }

pub returns-in-Ok : goal.returns-in-Ok
returns-in-Ok c = zero-takes (told c.args.found).code _ _ c.args.work.now (ap (λ v. (told v).code) c.in-Ok.is) c.keep.ensures

pub returns-in-Err : goal.returns-in-Err
returns-in-Err c =
    other-leaves (told c.args.found).code _ c.args.work.now (λ z. number-some c.in-Err.field-0.reason
    (sym (ap (λ v. (told v).code) c.in-Err.is) ∙ z))
