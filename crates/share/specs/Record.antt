-- Reading a share record (document 01, "The call"); `at` is where the record starts in a list of bytes. Where things lie in it: Layout.antt.
use Rattle.std.specs.Prelude.{ℕ, ◌+◌, Bool, ◌&&◌, List, get_or}
use Rattle.algebra.specs.Group.{odd}
use Rattle.block.specs.declared.Block.{Block}
use Rattle.block.specs.Block.{block_at, eq_block}
use Rattle.block.specs.Group.{blocks}
pub use Rattle.share.specs.Layout.{record_len, mac_off, key_off}

-- the bit is the lowest digit of the first byte
unfoldable pub bit_at : List ℕ → ℕ → Bool
bit_at s at = odd (get_or s at 0)

unfoldable pub mac_at : List ℕ → ℕ → ℕ → Block
mac_at s at k = block_at s (at + mac_off k)

unfoldable pub key_at : List ℕ → ℕ → ℕ → Block
key_at s at k = block_at s (at + key_off k)

-- party i's own entry is zero
unfoldable pub own_zero : ℕ → List ℕ → ℕ → Bool
own_zero i s at = eq_block (mac_at s at i) blocks.nil && eq_block (key_at s at i) blocks.nil
