use Rattle.lists.specs.Kit.{sym, ap, ◌∙◌}
use Rattle.engine.specs.Step.{Reply, reply_of}
use Rattle.interface.specs.Interface.{told_c}
use Rattle.interface.specs.InterfaceLaws.{tells-last, tells-other, tells-refused}
use Rattle.interface.proofs.tell.Goals as goal

pub returns-then-due-eq0 : goal.returns-then-due-eq0
unfolding reply_of
returns-then-due-eq0 c =
    c.copy_from_slice.ensures.after ∙ tells-last c.args.due c.args.told c.args.out.now c.if-due-eq0.true
    ∙ ap (λ (v : Reply). told_c v c.args.due c.args.told c.args.out.now) (sym (ap reply_of c.in-Ok.is))

pub returns-else-due-eq0 : goal.returns-else-due-eq0
unfolding reply_of
returns-else-due-eq0 c =
    tells-other c.args.due c.args.told c.args.out.now c.if-due-eq0.false
    ∙ ap (λ (v : Reply). told_c v c.args.due c.args.told c.args.out.now) (sym (ap reply_of c.in-Ok.is))

pub returns-in-Err : goal.returns-in-Err
unfolding reply_of
returns-in-Err c =
    tells-refused c.args.due c.args.told c.args.out.now _ _
    ∙ ap (λ (v : Reply). told_c v c.args.due c.args.told c.args.out.now) (sym (ap reply_of c.in-Err.is))
