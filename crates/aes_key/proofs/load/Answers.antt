use Rattle.lists.specs.Kit.{◌∙◌}
use Rattle.aes_tables.specs.WordLaws.{le-column4}
use Rattle.aes_key.specs.Words.{word_at}
use Rattle.aes_key.proofs.load.Goals as goal

pub returns : goal.returns
unfolding word_at
returns c = c.from_le_bytes.ensures ∙ le-column4 _ _ _ _
