use Rattle.lists.specs.Kit.{sym, ap, ◌∙◌, get_or}
use Rattle.lists.specs.Pick.{pick}
use Rattle.interface.specs.InterfaceLaws.{due-short, due-is}
use Rattle.interface.proofs.due.Goals as goal

pub returns-then-session-ne-SESSION : goal.returns-then-session-ne-SESSION
returns-then-session-ne-SESSION c = due-short c.args.session.now c.if-session-ne-SESSION.true

pub returns-then-alive : goal.returns-then-alive
returns-then-alive c =
    let s = c.args.session.now in
    ap (λ b'. pick b' (get_or s 3 0) 0) (sym c.if-alive.true)
    ∙ due-is s c.load.result c.alive.result c.if-session-ne-SESSION.false c.load.ensures.0 c.alive.ensures

pub returns-else-alive : goal.returns-else-alive
returns-else-alive c =
    let s = c.args.session.now in
    ap (λ b'. pick b' (get_or s 3 0) 0) (sym c.if-alive.false)
    ∙ due-is s c.load.result c.alive.result c.if-session-ne-SESSION.false c.load.ensures.0 c.alive.ensures
