use Rattle.std.specs.Prelude.{◌+◌}
use Rattle.lists.specs.Kit.{ap, ◌∙◌, List, ℕ}
use Rattle.blake3_core.specs.Compress.{compress, IV}
use Rattle.blake3_node.specs.Node as N
use Rattle.blake3_node.proofs.parent.Goals as goal

pub returns : goal.returns
unfolding N.parent
returns c =
    c.compress.ensures
    ∙ ap (λ (m : List ℕ). compress IV m 0 64 (4 + c.args.f)) c.both-m.ensures
