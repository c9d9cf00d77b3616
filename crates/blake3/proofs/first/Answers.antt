use Rattle.lists.specs.Kit.{sym, arith}
use Rattle.blake3.specs.FirstLaws.{head_in, head-is, item_in, item-is}
use Rattle.blake3.proofs.first.Goals as goal

pub bounds-s-i : goal.bounds-s-i
bounds-s-i c =
    head_in c.args.stride c.args.s.now c.requires.0 c.args.i c.requires.1

pub overflow_mul-result : goal.overflow_mul-result
overflow_mul-result c =
    omega (arith, item_in c.args.stride c.args.s.now c.requires.0 c.args.i c.requires.1 (omega arith))

pub overflow_add-result : goal.overflow_add-result
overflow_add-result c =
    omega (arith, item_in c.args.stride c.args.s.now c.requires.0 c.args.i c.requires.1 (omega arith))

pub bounds-s-i-else-i-lt8 : goal.bounds-s-i-else-i-lt8
bounds-s-i-else-i-lt8 c =
    item_in c.args.stride c.args.s.now c.requires.0 c.args.i c.requires.1 (omega arith)

pub returns-then-i-lt8 : goal.returns-then-i-lt8
returns-then-i-lt8 c =
    sym (head-is c.args.stride c.args.s.now c.requires.0 c.args.i c.requires.1 (omega arith))

pub returns-else-i-lt8 : goal.returns-else-i-lt8
returns-else-i-lt8 c =
    sym (item-is c.args.stride c.args.s.now c.requires.0 c.args.i c.requires.1 (omega arith))
