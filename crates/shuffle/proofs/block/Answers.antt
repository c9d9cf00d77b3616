use Rattle.lists.specs.Kit.{arith}
use Rattle.shuffle.proofs.TurnLaws.{taken-zero, taken-turn, taken-all, taken-end}
use Rattle.shuffle.proofs.block.Goals as goal

pub loop-v-init : goal.loop-v-init
loop-v-init c = taken-zero _ _ _ c.requires.2

pub loop-v-preserved : goal.loop-v-preserved
loop-v-preserved c =
    taken-turn c.args.section.now c.args.words c.args.s c.loop-v.section c.step-at.new.section c.loop-v.at
    c.step-at.result c.loop-v.v-index c.loop-v.invariant (omega (arith, c))
    (omega (arith, c.if-at-eq0.false)) c.step-at.auto.section c.step-at.ensures.less c.step-at.ensures.by_index

pub returns-then-at-eq0 : goal.returns-then-at-eq0
returns-then-at-eq0 c =
    let T =
    taken-end c.args.section.now c.args.words c.args.s c.loop-v.section c.loop-v.at c.loop-v.v-index c.loop-v.invariant
    c.if-at-eq0.true in
    record { less_by = T.less; by_index = T.goes }

pub returns : goal.returns
returns c =
    let T =
    taken-all c.args.section.now c.args.words c.args.s c.loop-v.section c.loop-v.at c.loop-v.v-index c.loop-v.invariant
    (omega (arith, c)) in
    record { less_by = T.less; by_index = T.goes }
