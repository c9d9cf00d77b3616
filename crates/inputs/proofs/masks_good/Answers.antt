use Rattle.lists.specs.Kit.{rules}
use Rattle.inputs.specs.Given.{masks?}
use Rattle.inputs.proofs.masks_good.Goals as goal

pub returns : goal.returns
unfolding masks?
returns c = c.all_of.ensures _ (λ k r l h. search rules)
