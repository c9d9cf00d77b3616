-- `batches::are_whole` meets its contract.
use Rattle.lists.specs.Kit.{arith}
use Rattle.batches.specs.Turns.{whole_is}
use Rattle.batches.proofs.are_whole.Goals as goal

pub returns : goal.returns
returns c =
    whole_is c.args.counts c.args.l _ _ (omega arith) c.sum.ensures c.all_joined.ensures
