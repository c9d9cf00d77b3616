use Rattle.std.specs.Prelude.{◌≡◌}
use Rattle.lists.specs.Kit.{subst, [], get_or, arith}
use Rattle.chacha20_lanes.specs.declared.Lane.{Lane}
use Rattle.shuffle.specs.Turns.{Blocks}
use Rattle.shuffle.proofs.TurnLaws.{blocks-zero, lane-at, lane-turn}
use Rattle.shuffle.proofs.window.Goals as goal

pub loop-lane-init : goal.loop-lane-init
loop-lane-init c = blocks-zero _ _ _ _ c.requires.3

pub loop-lane-preserved : goal.loop-lane-preserved
loop-lane-preserved c =
    let no : Lane = record { 0 = [] } in
    let l = c.loop-lane in
    let ls = c.four-lane-items in
    lane-turn c.args.key.now c.args.counter c.args.section.now c.args.s l.lane-index l.section c.block-at.new.section
    (get_or ls.result l.lane-index no).0 l.at c.block-at.result l.invariant
    (lane-at c.args.key.now c.args.counter l.lane-index ls.result no ls.ensures (omega (arith, c)))
    c.block-at.auto.section c.block-at.ensures.less_by c.block-at.ensures.by_index

pub returns : goal.returns
returns c =
    let B =
    subst (Blocks c.args.key.now c.args.counter c.args.section.now c.args.s c.loop-lane.section c.loop-lane.at)
    (let e : c.loop-lane.lane-index ≡ 4 = omega (arith, c) in e) c.loop-lane.invariant in
    record { less_by = B.less; by_index = B.goes }
