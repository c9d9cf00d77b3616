-- The chunk count falls.
use Rattle.blake3.specs.Tree.{chunks}
use Rattle.blake3.proofs.+tree.Given as goal

abbrev pub decreases-tree : goal.decreases-tree
decreases-tree l = chunks l.len
