use Rattle.std.specs.Prelude.{◌+◌, ◌-◌, ◌*◌}
use Rattle.lists.specs.Kit.{sym, ap}
use borrow.Author.Tests.{lt-ltb, le-ltb}
use Rattle.lists.specs.Pick.{pick}
use Rattle.rounds.specs.Fashare.{dm_mac}
use Rattle.fashare_dibi.proofs.dm_mac_off.Goals as goal

pub returns-then-j-k : goal.returns-then-j-k
unfolding dm_mac
returns-then-j-k c = sym (ap (λ b. 1 + 16 * pick b (c.args.k - 1) c.args.k) (lt-ltb c.args.j c.args.k c.if-j-k.true))

pub returns-else-j-k : goal.returns-else-j-k
unfolding dm_mac
returns-else-j-k c = sym (ap (λ b. 1 + 16 * pick b (c.args.k - 1) c.args.k) (le-ltb c.args.j c.args.k c.if-j-k.false))
