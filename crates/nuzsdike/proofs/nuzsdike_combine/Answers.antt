use Rattle.engine.specs.Step.{reply_of}
use Rattle.rounds.specs.Combine.{args}
use Rattle.interface.specs.InterfaceLaws.{combines, combine-named}
use Rattle.nuzsdike.proofs.nuzsdike_combine.Goals as goal

pub answer-requires : goal.answer-requires
answer-requires c =
    combine-named (args c.args.n c.args.i c.args.count c.args.triples.now c.args.d.now c.args.out.now)
    (reply_of c.combine.result) c.combine.new.out
    c.combine.ensures c.ranges.i.fits

pub returns : goal.returns
returns c =
    combines (args c.args.n c.args.i c.args.count c.args.triples.now c.args.d.now c.args.out.now) c.answer.result
    c.combine.new.out (reply_of c.combine.result) c.answer.ensures c.combine.ensures
