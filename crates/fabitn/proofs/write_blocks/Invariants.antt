-- The loop's invariant: the first j Blocks are written.
use Rattle.std.specs.Prelude.{◌+◌, ◌-◌, ◌*◌, ◌≤◌}
use Rattle.lists.specs.Over.{Written}
use Rattle.block.specs.Block.{bytes_of}
use Rattle.rbits.specs.Chosen.{pair_at}
use Rattle.rounds.specs.Fabitn.{STRINGS}
use Rattle.fabitn.proofs.write_blocks.Given as goal

abbrev pub invariant-loop-j : goal.invariant-loop-j
invariant-loop-j l = Written (λ j'. bytes_of (pair_at l.words (l.base + j'))) l.j (l.j * 16) l.initial.out l.out
