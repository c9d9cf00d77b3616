use Rattle.lists.specs.Kit.{◌∙◌}
use Rattle.blake3.specs.TreeLaws.{tree-window}
use Rattle.blake3.proofs.four.Goals as goal

pub returns : goal.returns
returns c =
    c.four.ensures ∙ tree-window c.args.s.now c.args.from c.args.t c.args.f c.requires.from_in_bounds
