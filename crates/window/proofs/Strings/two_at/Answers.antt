use Rattle.lists.specs.Kit.{arith}
use Rattle.block.specs.Block.{Small}
use Rattle.window.specs.WindowLaws.{block_made, block-lent}
use Rattle.window.proofs.Strings.two_at.Goals as goal

pub returns-in-Some-clause-by_index : goal.returns-in-Some-clause-by_index
returns-in-Some-clause-by_index c count v =
    let small : Small c.encrypt_two.result.0 =
    record { low = omega (arith, c.encrypt_two.type_inv); high = omega (arith, c.encrypt_two.type_inv) } in
    block_made count c.args.c c.args.self.now.r.now c.encrypt_two.result.0 c.in-Some.cipher.key.words
    (c.args.self.now.ready.seed _ c.in-Some.is) (c.args.self.now.ready.words _ c.in-Some.is)
    c.encrypt_two.ensures.result_value small (omega arith) v

pub returns-in-Some-clause-by_index_2 : goal.returns-in-Some-clause-by_index_2
returns-in-Some-clause-by_index_2 c count v =
    let small : Small c.encrypt_two.result.1 =
    record { low = omega (arith, c.encrypt_two.type_inv); high = omega (arith, c.encrypt_two.type_inv) } in
    block_made count c.args.d c.args.self.now.r.now c.encrypt_two.result.1 c.in-Some.cipher.key.words
    (c.args.self.now.ready.seed _ c.in-Some.is) (c.args.self.now.ready.words _ c.in-Some.is)
    c.encrypt_two.ensures.result_value_2 small (omega arith) v

pub returns-in-None-clause-by_index : goal.returns-in-None-clause-by_index
returns-in-None-clause-by_index c count v =
    block-lent count c.args.c c.args.self.now.r.now c.load.result (c.args.self.now.ready.lent c.in-None.is) c.load.ensures

pub returns-in-None-clause-by_index_2 : goal.returns-in-None-clause-by_index_2
returns-in-None-clause-by_index_2 c count v =
    block-lent count c.args.d c.args.self.now.r.now c.load-in-None.result (c.args.self.now.ready.lent c.in-None.is) c.load-in-None.ensures
