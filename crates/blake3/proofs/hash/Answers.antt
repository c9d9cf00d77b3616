use Rattle.lists.specs.Kit.{ap, ◌∙◌}
use Rattle.blake3.specs.Tree.{bytes, hash}
use Rattle.blake3.proofs.hash.Goals as goal

pub returns : goal.returns
unfolding hash
returns c = c.store.ensures ∙ ap bytes c.digest_of.ensures
