use Rattle.lists.specs.Kit.{refl, ap, ◌∙◌, arith}
use Rattle.engine.specs.Area.{off}
use Rattle.rounds.specs.Area.{size_of}
use Rattle.area.specs.AreaLaws.{size-most, off-most, off-turn}
use Rattle.area.proofs.section_at.Goals as goal

pub loop-k-init : goal.loop-k-init
unfolding off
loop-k-init c = refl

pub section_len-at-requires : goal.section_len-at-requires
section_len-at-requires c = record { in_range = c.requires.in_range; s_bound = omega (arith, c.loop-k-test.true, c.requires.s_bound) }

pub overflow_add-at : goal.overflow_add-at
overflow_add-at c =
    rw (c.loop-k.invariant, c.section_len-at.ensures)
    (omega (arith, off-most c.args.f c.requires.in_range c.loop-k.k (omega (arith, c.loop-k-test.true, c.requires.s_bound)), size-most c.args.f c.requires.in_range c.loop-k.k (omega (arith, c.loop-k-test.true, c.requires.s_bound))))

pub loop-k-preserved : goal.loop-k-preserved
loop-k-preserved c =
    off-turn (size_of c.args.f) c.loop-k.k c.loop-k.at c.section_len-at.result c.loop-k.invariant c.section_len-at.ensures

pub returns : goal.returns
returns c =
    c.loop-k.invariant ∙ ap (off (size_of c.args.f)) (omega arith)
