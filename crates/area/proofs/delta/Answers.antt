use Rattle.lists.specs.Kit.{ap, ◌∙◌, List, ℕ, arith, length}
use Rattle.block.specs.Block.{block_at}
use Rattle.rounds.specs.Area.{DELTA, size_of, sizes}
use Rattle.rounds.specs.Table as Table
use Rattle.area.specs.GivenLaws.{length_at}
use Rattle.area.proofs.delta.Goals as goal

pub load-requires : goal.load-requires
unfolding size_of sizes
load-requires c = omega (arith, ap length c.section.ensures ∙ length_at c.requires DELTA (omega arith))

pub returns : goal.returns
unfolding Table.delta
returns c = c.load.ensures ∙ ap (λ (x : List ℕ). block_at x 0) c.section.ensures
