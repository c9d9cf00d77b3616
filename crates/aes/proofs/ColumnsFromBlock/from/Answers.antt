use Rattle.lists.specs.Kit.{refl}
use Rattle.aes.specs.Columns.{columns_of}
use Rattle.aes.proofs.ColumnsFromBlock.from.Goals as goal

pub returns : goal.returns
unfolding columns_of
returns c = refl
