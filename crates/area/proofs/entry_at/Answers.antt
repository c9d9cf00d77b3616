use Rattle.lists.specs.Kit.{arith}
use Rattle.area.specs.Positions.{row-most}
use Rattle.area.proofs.entry_at.Goals as goal

pub overflow_add-result-2 : goal.overflow_add-result-2
overflow_add-result-2 c =
    omega (arith, c.leaky_at.ensures, row-most c.args.f c.requires.0 c.args.t c.requires.1, c.requires.2, c.requires.0.eight)
