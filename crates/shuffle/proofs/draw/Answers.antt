use Rattle.std.specs.Prelude.{◌-◌}
use Rattle.lists.specs.Kit.{arith, rules}
use Rattle.shuffle.proofs.TurnLaws.{less-falls, blocks-zero, window-turn, drawn}
use Rattle.shuffle.proofs.draw.Goals as goal

pub loop-at-init : goal.loop-at-init
loop-at-init c = blocks-zero _ _ _ _ (search rules)

pub loop-at-smaller : goal.loop-at-smaller
loop-at-smaller c =
    less-falls 64 c.loop-at.at c.window-at.result (omega arith) c.loop-at-test.true c.window-at.ensures.less_by

pub loop-at-preserved : goal.loop-at-preserved
loop-at-preserved c =
    window-turn c.args.key.now c.start.new.section record { t = c.args.n - 1; left = 64 } c.loop-at.counter
    c.loop-at.section c.window-at.new.section c.loop-at.at c.window-at.result c.loop-at.invariant c.window-at.auto.section c.window-at.ensures.less_by
    c.window-at.ensures.by_index

pub returns : goal.returns
returns c =
    drawn c.args.n c.requires.2 c.args.key.now c.start.new.section c.loop-at.section c.loop-at.at c.loop-at.counter
    c.start.ensures c.loop-at.invariant (omega (arith, c.loop-at-test.false))
