use Rattle.lists.specs.Kit.{arith}
use Rattle.message.proofs.Laws.{vec-short, vec-over, vec-whole}
use Rattle.message.proofs.vec_len.Goals as goal

pub returns-then-left-lt8 : goal.returns-then-left-lt8
returns-then-left-lt8 c = vec-short c.args.s.now c.args.at c.args.size c.requires.1 c.if-left-lt8.true

pub returns-then-room-count : goal.returns-then-room-count
returns-then-room-count c =
    vec-over c.args.s.now c.args.at c.args.size c.requires.1 c.load64-count.result c.load64-count.ensures c.if-room-count.true

pub returns : goal.returns
returns c = (
  vec-whole c.args.s.now c.args.at c.args.size c.requires.1 c.load64-count.result c.load64-count.ensures c.if-left-lt8.false
      c.if-room-count.false,
  omega arith,
)
