-- What is known of each column is found by `search`: it has no name in it, so that another function's column is refused for what it is.
use Rattle.aes.specs.ColumnLaws.{last-columns}
use Rattle.aes.proofs.last_round.Goals as goal

pub returns : goal.returns
returns c =
    last-columns c.args.key.now.words c.args.s _ (search) (search) (search) (search)
