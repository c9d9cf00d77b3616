use Rattle.lists.specs.Kit.{sym, ap, ◌∙◌, arith}
use Rattle.encode.specs.Encode.{some_item}
use Rattle.block.specs.Block.{bytes_of}
use Rattle.rounds.specs.EchoLaws.{put-present, put-absent}
use Rattle.echo.proofs.put_entry.Goals as goal

pub returns-then-told : goal.returns-then-told
returns-then-told c =
    put-present c.args.i c.args.r c.args.k c.args.hashes.now c.put_some.new.out
    (λ i. omega (arith, c.type_inv.hashes i)) c.requires.1
    (sym c.told.ensures ∙ c.if-told.true)
    (c.put_some.ensures ∙ ap (λ b. some_item (bytes_of b)) c.load.ensures)

pub returns-else-told : goal.returns-else-told
returns-else-told c =
    put-absent c.args.i c.args.r c.args.k c.args.hashes.now c.put_none.new.out
    (sym c.told.ensures ∙ c.if-told.false)
    c.put_none.ensures
