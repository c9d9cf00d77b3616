use Rattle.lists.specs.Kit.{rules}
use Rattle.shuffle.proofs.TurnLaws.{went-used, went-passed, some_left}
use Rattle.shuffle.proofs.step.Goals as goal

pub returns-then-fits-left : goal.returns-then-fits-left
returns-then-fits-left c =
    record {
      less = search rules;
      by_index = λ w k e n p K.
          went-used w n k c.args.v c.fits.result c.args.s p c.swap.new.section c.requires.0 e
          c.fits.ensures c.if-fits-left.true (c.swap.ensures n p K);
    }

pub returns-else-fits-left : goal.returns-else-fits-left
returns-else-fits-left c =
    let some = some_left c.fits.result c.args.s.left c.if-fits-left.false in record {
      less = search rules;
      by_index = λ w k e n p K.
          went-passed w n k c.args.v c.fits.result c.args.s p c.args.section.now c.requires.0 e
          c.fits.ensures c.if-fits-left.false K;
    }
