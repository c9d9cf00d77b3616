-- `sessions::deal::key_off` meets its contract: entries lie in the record.
use Rattle.std.proofs.Common.{arith}
use Rattle.share.specs.Layout.{key-behind}
use Rattle.sessions.proofs.Laws.{entry-lent}
use Rattle.sessions.proofs.deal.key_off.Goals as goal

pub overflow_add-result : goal.overflow_add-result
overflow_add-result c =
    let k = c.args.k in
    omega (arith, c.key_off.ensures, key-behind k, entry-lent k c.requires)

pub returns : goal.returns
returns c =
    let k = c.args.k in
    omega (arith, c.key_off.ensures, key-behind k, entry-lent k c.requires)
