-- `sessions::deal::record_len` meets its contract.
use Rattle.std.proofs.Common.{arith}
use Rattle.share.specs.LentLaws.{head-within, lent-most}
use Rattle.sessions.proofs.deal.record_len.Goals as goal

pub returns : goal.returns
returns c =
    let n = c.args.n in
    omega (arith, c.lent_len.ensures, head-within n, lent-most n (omega arith))
