-- The loop's invariant: the first k rows are kept. The own seeds, which each row is made from, are as they were.
use Rattle.std.specs.Prelude.{◌-◌, ◌≤◌}
use Rattle.lists.specs.Kit.{List, ℕ}
use Rattle.lists.specs.Rows.{chunk}
use Rattle.block.specs.Block.{xor_inplace}
use Rattle.engine.specs.declared.Frame.{Frame}
use Rattle.rounds.specs.Area.{PAIRS, PAIRWISE, at}
use Rattle.rounds.specs.Mail.{letter}
use Rattle.rounds.specs.Loops.{row_of}
use Rattle.rounds.specs.Toss.{told}
use Rattle.area.specs.Filled.{Filled}
use Rattle.toss_recv.proofs.keep_pairwise.Given as goal

-- the seed with party k, and its row
abbrev pub seed_of : List ℕ → (ℕ → List ℕ) → ℕ → List ℕ
seed_of pairs m k = xor_inplace (chunk 32 k pairs) (told (m k))

abbrev pub row : Frame → List ℕ → (ℕ → List ℕ) → ℕ → List ℕ
row f work m = row_of f.i 32 (seed_of (at f PAIRS work) m)

abbrev pub invariant-loop-k : goal.invariant-loop-k
invariant-loop-k l = Filled l.f PAIRWISE 32 (row l.f l.initial.work (letter l.incoming l.mail)) l.k l.initial.work l.work
