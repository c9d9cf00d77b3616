use Rattle.lists.specs.Kit.{sym, ap, ◌∙◌}
use Rattle.engine.specs.Step.{reply_of}
use Rattle.interface.specs.Interface.{packed_of}
use Rattle.interface.proofs.answer.Goals as goal

pub packed_refusal-requires : goal.packed_refusal-requires
unfolding reply_of
packed_refusal-requires c = rw c.in-Err.is at c.requires

pub returns-in-Ok : goal.returns-in-Ok
unfolding packed_of reply_of
returns-in-Ok c = ap (λ v. packed_of (reply_of v)) (sym c.in-Ok.is)

pub returns-in-Err : goal.returns-in-Err
unfolding reply_of
returns-in-Err c = c.packed_refusal.ensures ∙ ap (λ v. packed_of (reply_of v)) (sym c.in-Err.is)
