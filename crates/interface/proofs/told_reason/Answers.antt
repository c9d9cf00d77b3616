use Rattle.lists.specs.Kit.{sym, ◌∙◌}
use Rattle.interface.specs.InterfaceLaws.{told_over, told-turn, told-short}
use Rattle.interface.proofs.told_reason.Goals as goal

pub returns-then-not-alive : goal.returns-then-not-alive
returns-then-not-alive c = told_over c.args.s c.args.k (sym c.alive.ensures ∙ c.if-not-alive.true)

pub returns-then-k-s : goal.returns-then-k-s
returns-then-k-s c =
    told-turn c.args.s c.args.k (sym c.alive.ensures ∙ c.if-not-alive.false) c.if-k-s.true

pub returns : goal.returns
returns c =
    told-short c.args.s c.args.k (sym c.alive.ensures ∙ c.if-not-alive.false) c.if-k-s.false
