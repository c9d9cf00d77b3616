use Rattle.lists.specs.Rows.{length-row, row-part}
use Rattle.toss.proofs.seed_for.Goals as goal

pub returns : goal.returns
returns c =
    (row-part 32 c.args.k c.args.pairs.now, length-row 32 c.args.k c.args.pairs.now c.requires)
