use Rattle.lists.specs.Kit.{◌∙◌, arith}
use borrow.Author.Tests.{ne_eqb}
use Rattle.message.proofs.Laws.{due-not, due-both, bucket-head}
use Rattle.message.proofs.bucket_due.Goals as goal

pub load64-requires : goal.load64-requires
load64-requires c = omega (arith, bucket-head c.args.s.now c.args.at c.args.due c.requires.1)

pub overflow_add-at-then-load64-due : goal.overflow_add-at-then-load64-due
overflow_add-at-then-load64-due c = omega (arith, bucket-head c.args.s.now c.args.at c.args.due c.requires.1, c.load64.ensures)

pub load64-requires-then-load64-due : goal.load64-requires-then-load64-due
load64-requires-then-load64-due c = omega (arith, bucket-head c.args.s.now c.args.at c.args.due c.requires.1, c.load64.ensures)

pub returns-then-load64-due : goal.returns-then-load64-due
returns-then-load64-due c =
    due-both c.args.s.now c.args.at c.args.due c.requires.1 c.load64.result c.load64-then-load64-due.result c.load64.ensures
    c.if-load64-due.true c.load64-then-load64-due.ensures

pub returns-else-load64-due : goal.returns-else-load64-due
returns-else-load64-due c =
    ne_eqb c.load64.result c.args.due c.if-load64-due.false
    ∙ due-not c.args.s.now c.args.at c.args.due c.requires.1 c.load64.result c.load64.ensures c.if-load64-due.false
