-- The sums of all other parties, one behind the other: other party q's are Blocks 120q to 120q + 119.
use Rattle.std.specs.Prelude.{List, ℕ, ◌+◌, ◌-◌, ◌*◌, ◌/◌, ◌%◌, ◌<◌, ◌≤◌, length, ltb}
use Rattle.lists.specs.Pick.{pick}
use Rattle.algebra.specs.Group.{sel}
use Rattle.block.specs.declared.Block.{Block}
use Rattle.block.specs.Group.{blocks}
use Rattle.share.specs.Record.{record_len}
use Rattle.engine.specs.Area.{nth}
use Rattle.rbits.specs.Chosen.{block_sum, pair_at}
use Rattle.rbits.specs.Tables.{record_block, tables, lookup, half_at}
use Rattle.draw.specs.Given.{Whole}

-- Block p of the sums that are at offset `off k` of party k's records; zero past the last party's
unfoldable pub party_sums : (ℕ → ℕ) → ℕ → ℕ → List ℕ → List ℕ → ℕ → ℕ → ℕ → Block
party_sums off n i s r row count p =
    sel blocks (ltb p ((n - 1) * 120)) (block_sum s (record_len n) (off (nth i (p / 120))) r row count (p % 120))

-- Block p of acc, with what is chosen of 64 records added for the first `done` of the other parties
unfoldable pub grown : (ℕ → ℕ) → ℕ → ℕ → List ℕ → ℕ → ℕ → List ℕ → ℕ → List ℕ → ℕ → ℕ → Block
grown off n i s count first win h acc done p =
    pick (ltb p (done * 120))
    (blocks.op (pair_at acc p)
    (lookup (tables (λ e. record_block s (record_len n) (off (nth i (p / 120))) count (first + e))) (half_at win h (p % 120))))
    (pair_at acc p)

-- what the code asks: opening's numbers, whole records, and strings, of `each` Blocks, long enough for them, or a seed
pub record Given (n i count each : ℕ) (s r : List ℕ) : Type 0 where
  pub two : 2 ≤ n
  pub eight : n ≤ 8
  pub own : i < n
  pub records : count * record_len n ≤ length s
  pub whole : Whole (120 * each) r
  pub enough : count ≤ 128 * each
  pub most : each ≤ 40000
