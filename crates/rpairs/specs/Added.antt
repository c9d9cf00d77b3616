-- What a turn adds: the sums of seven parties lie one behind the other, 120 Blocks each.
use Rattle.std.specs.Prelude.{◌&&◌, List, ℕ, ◌+◌, ◌-◌, ltb, leb}
use Rattle.lists.specs.Pick.{pick}
use Rattle.block.specs.declared.Block.{Block}
use Rattle.block.specs.Group.{blocks}
use Rattle.rbits.specs.Chosen.{pair_at}
use Rattle.rbits.specs.Tables.{lookup, half_at}

-- Block p of acc, with what the tables t hold for its string added where p is one of the 120 from `base` on
unfoldable pub added_from : ℕ → List ℕ → List ℕ → List ℕ → ℕ → ℕ → Block
added_from base acc t win h p =
    pick (leb base p && ltb p (base + 120)) (blocks.op (pair_at acc p) (lookup t (half_at win h (p - base)))) (pair_at acc p)
