use Rattle.session.specs.CallLaws.{told-last, told-other}
use Rattle.session.proofs.told_after.Goals as goal

pub returns-then-due-eq0 : goal.returns-then-due-eq0
returns-then-due-eq0 c = told-last c.args.due c.args.counts c.pairs.result c.if-due-eq0.true c.pairs.ensures

pub returns-else-due-eq0 : goal.returns-else-due-eq0
returns-else-due-eq0 c = told-other c.args.due c.args.counts c.if-due-eq0.false
