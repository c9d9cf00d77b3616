use Rattle.aes.specs.ColumnLaws.{round-columns}
use Rattle.aes.proofs.round.Goals as goal

pub returns : goal.returns
returns c =
    round-columns c.args.key.now.words c.args.s _ c.args.key.now.tables.words c.args.k c.args.key.now.tables.right c.requires
    c.column.ensures c.column-2.ensures c.column-3.ensures c.column-4.ensures
