use Rattle.message.specs.Read as R
use Rattle.message.proofs.Laws.{inside-test, inside-past}
use Rattle.message.proofs.inside.Goals as goal

pub returns-then-start-total : goal.returns-then-start-total
unfolding R.inside
returns-then-start-total c = inside-test c.args.total c.args.start c.args.len c.if-start-total.true

pub returns-else-start-total : goal.returns-else-start-total
unfolding R.inside
returns-else-start-total c = inside-past c.args.total c.args.start c.args.len c.if-start-total.false
