use Rattle.lists.specs.Kit.{sym, ◌∙◌, arith}
use Rattle.message.specs.FormatLaws.{items-not}
use Rattle.message.proofs.Laws.{items-nothing, items-end, items-whole}
use Rattle.message.proofs.items_len.Goals as goal
use Rattle.message.proofs.items_len.Goals.{then-size-eq0-via-then-size-eq0, then-size-eq0-via-else-size-eq0+then-s-at}
use Rattle.message.proofs.items_len.Goals.{then-size-eq0-via-else-size-eq0+else-s-at+then-not-bools}

pub returns-then-size-eq0 : goal.returns-then-size-eq0
returns-then-size-eq0 c =
    let a = c.args in
    elim c.then-size-eq0.branch [
      | then-size-eq0-via-then-size-eq0 w ↦ items-nothing a.s.now a.at a.size a.count w.if-size-eq0.true
      | then-size-eq0-via-else-size-eq0+then-s-at w ↦ items-end a.s.now a.at a.size a.count w.if-s-at.true
      | then-size-eq0-via-else-size-eq0+else-s-at+then-not-bools w ↦
          items-not a.size a.count _ (sym w.bools.ensures ∙ w.if-not-bools.true)
    ]

pub returns : goal.returns
returns c =
    let a = c.args in (
      items-whole a.s.now a.at a.size a.count c.if-s-at.false (sym c.bools.ensures ∙ c.if-not-bools.false),
      omega (arith, c.if-size-eq0.false),
    )
