use Rattle.lists.specs.Kit.{arith}
use Rattle.aes_counter.specs.Starts.{first_of}
use Rattle.aes_counter.specs.StartLaws.{part-0, part-1, part-2}
use Rattle.aes_counter.proofs.part.Goals as goal

pub returns-in-0 : goal.returns-in-0
unfolding first_of
returns-in-0 c =
    part-0 c.args.key.now.tables.words c.args.key.now.words c.args.p c.args.x c.column.result c.pieces-q.result c.pieces-q.ensures c.args.z
    c.in-0.is c.requires.0 c.column.ensures

pub returns-in-1 : goal.returns-in-1
unfolding first_of
returns-in-1 c =
    part-1 c.args.key.now.tables.words c.args.key.now.words c.args.p c.args.x c.column-in-1.result c.pieces-q-in-1.result
    c.pieces-q-in-1.ensures c.in-1.is c.column-in-1.ensures

pub returns-in_default : goal.returns-in_default
unfolding first_of
returns-in_default c =
    part-2 c.args.key.now.tables.words c.args.key.now.words c.args.p c.args.x c.column-in_default.result
    c.pieces-q-in_default.result c.pieces-q-in_default.ensures (omega arith) c.column-in_default.ensures
