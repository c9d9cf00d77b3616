use Rattle.std.specs.Prelude.{◌-◌}
use borrow.Author.Tests.{lt-ltb, le-ltb}
use Rattle.haand_hash.proofs.place.Goals as goal

pub returns-then-k-i : goal.returns-then-k-i
returns-then-k-i c = simp (lt-ltb _ _ c.if-k-i.true)

pub returns-else-k-i : goal.returns-else-k-i
returns-else-k-i c = simp (le-ltb _ _ c.if-k-i.false)
