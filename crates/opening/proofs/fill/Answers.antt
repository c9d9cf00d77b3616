use Rattle.lists.specs.Kit.{refl}
use Rattle.opening.proofs.fill.Goals as goal

pub returns : goal.returns
returns c =
    rw (c.clear_rest.ensures, c.put_lists.ensures, c.put_seeds.ensures) refl
