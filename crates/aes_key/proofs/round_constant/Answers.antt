use Rattle.std.specs.Prelude.{◌-◌}
use Rattle.lists.specs.Kit.{arith}
use Rattle.aes_key.specs.WordsLaws.{constant-at}
use Rattle.aes_key.proofs.round_constant.Goals as goal

pub returns : goal.returns
returns c = constant-at (c.args.j - 1) (omega arith)
