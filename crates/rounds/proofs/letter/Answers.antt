use borrow.Author.Tests.{le-leb}
use Rattle.message.specs.Read as R
use Rattle.rounds.specs.Mail as Mail
use Rattle.rounds.proofs.letter.Goals as goal

pub part-requires : goal.part-requires
unfolding R.inside
part-requires c = le-leb _ _ c.requires.1

pub returns : goal.returns
unfolding Mail.letter
returns c = c.part.ensures
