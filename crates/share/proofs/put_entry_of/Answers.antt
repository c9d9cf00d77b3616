use Rattle.lists.specs.Kit.{sym, ◌∙◌, arith}
use Rattle.share.specs.ShareLaws.{entry-own, entry_other, zero-pair}
use Rattle.share.proofs.put_entry_of.Goals as goal

pub returns-then-i-of : goal.returns-then-i-of
returns-then-i-of c =
    let own = entry-own c.args.i c.args.of c.args.x.mac.0 c.args.x.key.0 c.if-i-of.true in
    let zeros = zero-pair in
    grind arith

pub returns-else-i-of : goal.returns-else-i-of
returns-else-i-of c =
    c.put_entry-else-i-of.ensures ∙ sym (entry_other c.args.i c.args.of c.args.x.mac.0 c.args.x.key.0 c.if-i-of.false)
