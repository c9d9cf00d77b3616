use Rattle.lists.specs.Kit.{ap, ◌∙◌, List, ℕ, arith, length}
use Rattle.blake3.specs.Tree.{tree, digest}
use Rattle.blake3.specs.FirstLaws.{firsts-one, all_plain}
use Rattle.blake3.proofs.digest_of.Goals as goal

pub tree-requires : goal.tree-requires
tree-requires c = omega (arith, ap length (firsts-one c.args.s.now))

pub returns : goal.returns
unfolding digest
returns c = c.tree.ensures ∙ ap (λ (m : List ℕ). tree m 0 8) (all_plain c.args.s.now)
