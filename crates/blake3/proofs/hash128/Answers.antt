use Rattle.lists.specs.Kit.{ap, ◌∙◌, List, ℕ}
use Rattle.block.specs.Block.{block_at}
use Rattle.blake3.specs.Tree.{bytes, hash}
use Rattle.blake3.proofs.hash128.Goals as goal

pub returns : goal.returns
unfolding hash
returns c = c.block.ensures ∙ ap (λ (h : List ℕ). block_at (bytes h) 0) c.digest_of.ensures
