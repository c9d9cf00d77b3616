use Rattle.std.specs.Prelude.{◌&&◌}
use Rattle.lists.specs.Kit.{ap₂, ◌∙◌, arith}
use Rattle.block.specs.Block.{eq_block}
use Rattle.blake3.specs.ByteLaws.{same-halves}
use Rattle.blake3.proofs.Digest.is.Goals as goal

pub returns : goal.returns
returns c =
    ap₂ ◌&&◌
    (c.equals.ensures ∙ ap₂ eq_block c.block.ensures c.load.ensures)
    (c.equals-2.ensures ∙ ap₂ eq_block c.second.ensures c.load-2.ensures)
    ∙ same-halves c.args.self.0 c.args.s.now c.args.at (λ i. omega (arith, c.type_inv.s i)) (omega arith)
