-- Which of the others a party is, and the row that is kept for it.
use Rattle.std.specs.Prelude.{List, ℕ, ◌+◌, ◌-◌, ◌*◌, ltb}
use Rattle.lists.specs.Pick.{pick}
use Rattle.lists.specs.Over.{cat}
use Rattle.block.specs.Block.{bytes_of}
use Rattle.rbits.specs.Chosen.{pair_at}
use Rattle.rounds.specs.Fabitn.{STRINGS}

-- party k is number `place_of i k` of the parties but i
unfoldable pub place_of : ℕ → ℕ → ℕ
place_of i k = pick (ltb k i) k (k - 1)

-- party k's sums, of those of all others, as bytes
unfoldable pub held_row : ℕ → List ℕ → ℕ → List ℕ
held_row i words k = cat STRINGS (λ j. bytes_of (pair_at words (place_of i k * STRINGS + j)))
