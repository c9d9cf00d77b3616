-- `sessions::deal::mac_off` meets its contract: entries lie in the record.
use Rattle.std.proofs.Common.{arith}
use Rattle.sessions.proofs.Laws.{entry-lent}
use Rattle.sessions.proofs.deal.mac_off.Goals as goal

pub overflow_add-result : goal.overflow_add-result
overflow_add-result c = omega (arith, c.mac_off.ensures, entry-lent c.args.k c.requires)

pub returns : goal.returns
returns c = omega (arith, c.mac_off.ensures, entry-lent c.args.k c.requires)
