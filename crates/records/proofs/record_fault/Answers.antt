use Rattle.std.specs.Prelude.{◌+◌}
use Rattle.lists.specs.Kit.{sym, ◌∙◌, arith}
use Rattle.share.specs.Layout.{record-within}
use Rattle.share.specs.LentLaws.{lent_longer, head-within, fault-bit, fault-label, fault-own, fault-none}
use Rattle.records.proofs.record_fault.Goals as goal

pub bounds-s-at : goal.bounds-s-at
bounds-s-at c =
    omega (arith, head-within c.args.n)

pub returns-then-s-at-gt1 : goal.returns-then-s-at-gt1
returns-then-s-at-gt1 c =
    sym (fault-bit c.args.n c.args.i c.args.s.now c.args.at c.if-s-at-gt1.true)

pub returns-then-not-labelled : goal.returns-then-not-labelled
returns-then-not-labelled c =
    sym (fault-label c.args.n c.args.i c.args.s.now c.args.at (omega arith) (sym c.labelled.ensures ∙ c.if-not-labelled.true))

-- the own entry lies within
pub own_zero-requires : goal.own_zero-requires
own_zero-requires c =
    let k = c.args.i in (
      omega (arith, c.requires.0, c.requires.1),
      omega (arith, record-within c.args.n k c.requires.1, lent_longer c.args.n, lent_longer (k + 1), c.requires.2),
    )

pub returns : goal.returns
returns c =
    sym (fault-none c.args.n c.args.i c.args.s.now c.args.at c.if-s-at-gt1.false
    (sym c.labelled.ensures ∙ c.if-not-labelled.false)
    (sym c.own_zero.ensures ∙ c.if-not-own_zero.false))

pub returns-then-not-own_zero : goal.returns-then-not-own_zero
returns-then-not-own_zero c =
    sym (fault-own c.args.n c.args.i c.args.s.now c.args.at c.if-s-at-gt1.false
    (sym c.labelled.ensures ∙ c.if-not-labelled.false)
    (sym c.own_zero.ensures ∙ c.if-not-own_zero.true))
