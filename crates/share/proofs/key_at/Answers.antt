use Rattle.std.specs.Prelude.{◌+◌}
use Rattle.lists.specs.Kit.{ap, ◌∙◌, arith}
use Rattle.block.specs.Block.{block_at}
use Rattle.share.specs.Layout.{entry-last, key-behind}
use Rattle.share.specs.Record.{key_at}
use Rattle.share.proofs.key_at.Goals as goal

pub overflow_add-at : goal.overflow_add-at
overflow_add-at c = omega (arith, entry-last c.args.k, key-behind c.args.k)

pub load-requires : goal.load-requires
load-requires c = omega (arith, entry-last c.args.k, key-behind c.args.k)

pub returns : goal.returns
unfolding key_at
returns c =
    c.load.ensures ∙ ap (λ x. block_at c.args.s.now (c.args.at + x)) c.key_off.ensures
