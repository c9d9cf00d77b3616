use Rattle.std.specs.Prelude.{◌∷◌}
use Rattle.lists.specs.Kit.{[]}
use Rattle.lists.specs.Over.{sets-all}
use Rattle.encode.specs.Encode.{none_item}
use Rattle.encode.proofs.put_none.Goals as goal

pub returns : goal.returns
unfolding none_item
returns c = sets-all (0 ∷ []) c.args.out.now c.requires
