use Rattle.lists.specs.Kit.{ap, ◌∙◌}
use Rattle.word.specs.Word.{le4}
use Rattle.shuffle.proofs.TurnLaws.{kept-swap}
use Rattle.shuffle.proofs.swap.Goals as goal

pub returns : goal.returns
returns c n p K =
    kept-swap n c.args.t c.args.j p c.args.section.now c.store.new.out c.store-2.new.out K c.requires.0 c.requires.1
    (c.store.ensures ∙ ap le4 c.load-y.ensures) (c.store-2.ensures ∙ ap le4 c.load-x.ensures)
