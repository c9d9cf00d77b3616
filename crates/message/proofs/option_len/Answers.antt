use Rattle.lists.specs.Kit.{refl, sym, arith}
use Rattle.message.proofs.Laws.{option-end, option-absent, option-bad, option-short, option-present}
use Rattle.message.proofs.option_len.Goals as goal

pub returns-then-left-eq0 : goal.returns-then-left-eq0
returns-then-left-eq0 c = option-end c.args.s.now c.args.at _ _ refl refl c.if-left-eq0.true

pub returns-in-0 : goal.returns-in-0
returns-in-0 c = (sym (option-absent c.args.s.now c.args.at _ _ refl refl c.if-left-eq0.false c.in-0.is), omega arith)

pub returns-in-1 : goal.returns-in-1
returns-in-1 c = option-short c.args.s.now c.args.at _ _ refl refl c.if-left-eq0.false c.in-1.is c.if-left-lt17.true

pub returns-in-1-2 : goal.returns-in-1-2
returns-in-1-2 c =
    (sym (option-present c.args.s.now c.args.at _ _ refl refl c.if-left-eq0.false c.in-1.is c.if-left-lt17.false), omega arith)

pub returns-in_default : goal.returns-in_default
returns-in_default c = option-bad c.args.s.now c.args.at _ _ refl refl c.if-left-eq0.false (λ z. omega arith) (λ z. omega arith)
