use Rattle.lists.specs.Kit.{arith}
use Rattle.area.specs.AreaLaws.{size-most, off-most}
use Rattle.area.proofs.place.Goals as goal

pub overflow_add-result : goal.overflow_add-result
overflow_add-result c =
    rw (c.section_at-a.ensures, c.section_len.ensures)
    (omega (arith, off-most c.args.f c.requires.0 c.args.s (omega (arith, c.requires.1)), size-most c.args.f c.requires.0 c.args.s c.requires.1))
