use Rattle.std.specs.Prelude.{◌≡◌}
use Rattle.lists.specs.Kit.{List, ℕ, arith}
use Rattle.block.specs.declared.Block.{Block}
use Rattle.block.specs.Block.{block_at}
use Rattle.blake3_node.specs.Node.{ROOT}
use Rattle.blake3.specs.Tree.{tree, digest, bytes, hash}
use Rattle.blake3.specs.FirstLaws.{length-firsts, firsts-fit, all_firsts}
use Rattle.blake3.proofs.hash128_firsts.Goals as goal

pub overflow_add-n : goal.overflow_add-n
overflow_add-n c =
    omega (arith, length-firsts c.args.stride c.args.s.now c.requires.0, firsts-fit c.args.stride c.args.s.now c.requires.0)

pub tree-requires : goal.tree-requires
tree-requires c =
    omega (arith, length-firsts c.args.stride c.args.s.now c.requires.0, firsts-fit c.args.stride c.args.s.now c.requires.0)

of_tree : {m m' h : List ℕ} {r : Block} → m ≡ m' → h ≡ tree m 0 ROOT → r ≡ block_at (bytes h) 0 → r ≡ block_at (hash m') 0
unfolding digest hash
of_tree em eh er = rw (er, eh, em)

pub returns : goal.returns
returns c =
    of_tree (all_firsts c.args.stride c.args.s.now c.requires.0 c.requires.1) c.tree.ensures c.block.ensures
