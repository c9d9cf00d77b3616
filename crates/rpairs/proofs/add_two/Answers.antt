use Rattle.lists.specs.Kit.{arith}
use lib.ListN.{length-set}
use Rattle.rpairs.specs.AddedLaws.{partly-zero, partly-turn, partly-end}
use Rattle.rpairs.proofs.add_two.Goals as goal

pub loop-j-init : goal.loop-j-init
loop-j-init c = (
  partly-zero c.args.base c.args.x.now c.args.t.now c.args.win.now c.args.h,
  partly-zero c.args.base c.args.y.now c.args.u.now c.args.win.now c.args.h,
)

pub loop-j-preserved : goal.loop-j-preserved
loop-j-preserved c = (
  partly-turn c.args.base c.args.x.now c.args.t.now c.args.win.now c.args.h c.loop-j.j c.loop-j.x c.choose_two.result.0
      c.loop-j.invariant.0 c.choose_two.ensures.0 (omega arith),
  partly-turn c.args.base c.args.y.now c.args.u.now c.args.win.now c.args.h c.loop-j.j c.loop-j.y c.choose_two.result.1
      c.loop-j.invariant.1 c.choose_two.ensures.1 (omega arith),
)

pub shape_of-x : goal.shape_of-x
shape_of-x c = c.loop-j.invariant.0.same

pub shape_of-y : goal.shape_of-y
shape_of-y c = c.loop-j.invariant.1.same

pub returns : goal.returns
returns c =
    record {
      x_after = partly-end c.args.base c.args.x.now c.args.t.now c.args.win.now c.args.h c.loop-j.j c.loop-j.x c.loop-j.invariant.0 (omega arith)
          c.requires.x_len.0;
      y_after = partly-end c.args.base c.args.y.now c.args.u.now c.args.win.now c.args.h c.loop-j.j c.loop-j.y c.loop-j.invariant.1 (omega arith)
          c.requires.x_len.1;
    }

pub bounds-x-k-in-loop-j : goal.bounds-x-k-in-loop-j
bounds-x-k-in-loop-j c = simp length-set (omega arith)

pub bounds-y-k-in-loop-j : goal.bounds-y-k-in-loop-j
bounds-y-k-in-loop-j c = simp length-set (omega arith)
