use Rattle.lists.specs.Kit.{ap, ◌∙◌}
use Rattle.blake3.specs.Tree as T
use Rattle.blake3.proofs.nuz_blake3_block.Goals as goal

pub returns : goal.returns
unfolding T.hash
returns c = c.store.ensures ∙ ap T.bytes c.hash_block.ensures
