use Rattle.lists.specs.Kit.{true, false}
use Rattle.rounds.specs.EchoLaws.{hash-of}
use Rattle.echo.proofs.hash_list.Goals as goal

pub returns-then-k : goal.returns-then-k
returns-then-k c =
    hash-of c.args.k c.args.list.now true c.hash128_firsts.result c.if-k.true c.hash128_firsts.ensures

pub returns-else-k : goal.returns-else-k
returns-else-k c =
    hash-of c.args.k c.args.list.now false c.hash128.result c.if-k.false c.hash128.ensures
