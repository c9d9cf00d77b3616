use Rattle.lists.specs.Kit.{sym, ap, ◌∙◌}
use Rattle.lists.specs.Pick.{pick}
use Rattle.lists.specs.All.{not-true, not-false}
use Rattle.message.proofs.Walk.{none-told, form-none, form-after, form-whole}
use Rattle.message.proofs.form_of.Goals as goal

pub returns-in_default : goal.returns-in_default
returns-in_default c =
    sym (form-none c.args.kind c.args.count c.args.m.now
    (none-told c.args.kind c.args.count c.args.m.now _ c.read.result c.in_default.not-Some c.read.ensures))

pub returns-then-r-m : goal.returns-then-r-m
returns-then-r-m c =
    let r = c.in-Some.r in
    let h = c.in-Some.ensures in
    sym (form-after c.args.kind c.args.count c.args.m.now r.used r.due h.0 h.1 h.2 c.if-r-m.true)

pub returns-then-not-r : goal.returns-then-not-r
returns-then-not-r c =
    let r = c.in-Some.r in
    let h = c.in-Some.ensures in
    sym (form-whole c.args.kind c.args.count c.args.m.now r.used r.due h.0 h.1 h.2 c.if-r-m.false
    ∙ ap (λ b. pick b 0 6) (not-true r.due c.if-not-r.true))

pub returns : goal.returns
returns c =
    let r = c.in-Some.r in
    let h = c.in-Some.ensures in
    sym (form-whole c.args.kind c.args.count c.args.m.now r.used r.due h.0 h.1 h.2 c.if-r-m.false
    ∙ ap (λ b. pick b 0 6) (not-false r.due c.if-not-r.false))
