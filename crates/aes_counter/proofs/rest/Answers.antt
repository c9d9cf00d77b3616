use Rattle.aes_counter.specs.Starts.{first_of}
use Rattle.aes_counter.specs.StartLaws.{rest-made}
use Rattle.aes_counter.proofs.rest.Goals as goal

pub returns : goal.returns
unfolding first_of
returns c =
    rest-made c.args.key.now.tables.words c.args.key.now.words c.column.result c.pieces-q.result c.pieces-q.ensures c.column.ensures
