use Rattle.std.specs.Prelude.{◌*◌}
use Rattle.lists.specs.Kit.{◌∙◌, arith, rules}
use Rattle.block.specs.Block.{block_at, eq_block}
use Rattle.flaand_hash.specs.Laws.{same_blocks}
use Rattle.flaand_hash.proofs.same.Goals as goal

pub returns : goal.returns
returns c =
    let a = c.args.a.now in
    let b = c.args.b.now in
    c.all_of.ensures (λ t. eq_block (block_at a (t * 16)) (block_at b (t * 16))) (λ k r l h. search rules)
    ∙ same_blocks a b (λ j. omega (arith, c.type_inv.a j)) (λ j. omega (arith, c.type_inv.b j)) c.requires.0 c.requires.1
