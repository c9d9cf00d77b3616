use Rattle.lists.specs.Kit.{arith, rules}
use Rattle.block.proofs.Laws.{mul-bit, const-mul}
use Rattle.block.proofs.Block.const_mul.Goals as goal

pub overflow_mul-result : goal.overflow_mul-result
overflow_mul-result c = omega (arith, mul-bit c.args.self.0 c.args.b (search rules))

pub overflow_mul-result-2 : goal.overflow_mul-result-2
overflow_mul-result-2 c = omega (arith, mul-bit c.args.self.1 c.args.b (search rules))

pub returns : goal.returns
returns c = const-mul c.args.self c.args.b
