use Rattle.lists.specs.Kit.{refl}
use Rattle.aes.specs.Columns.{column_of}
use Rattle.aes.proofs.column.Goals as goal

pub returns : goal.returns
unfolding column_of
returns c = refl
