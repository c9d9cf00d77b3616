use Rattle.lists.specs.Kit.{refl}
use Rattle.inputs.specs.Given.{with_seeds}
use Rattle.opening.proofs.put_seeds.Goals as goal

pub returns : goal.returns
unfolding with_seeds
returns c =
    rw (c.put_section-4.ensures, c.put_section-3.ensures, c.put_section-2.ensures, c.put_section.ensures) refl
