use Rattle.lists.specs.Kit.{refl, arith, length}
use borrow.Author.Tests.{le-leb, lt-leb}
use Rattle.batches.specs.Batches.{MOST}
use Rattle.batches.specs.Turns.{sum-none, sum-turn, sum-end}
use Rattle.batches.proofs.sum.Goals as goal

pub returns-then-counts-gt-MOST : goal.returns-then-counts-gt-MOST
returns-then-counts-gt-MOST c = rw (lt-leb (length c.args.counts.now) MOST (omega arith)) refl

pub loop-count-init : goal.loop-count-init
loop-count-init c = (sum-none c.args.counts.now, omega arith)

pub loop-count-preserved : goal.loop-count-preserved
loop-count-preserved c =
    let o = c.loop-count in
    (sum-turn c.args.counts.now o.count-index o.l _ o.invariant.0 refl, omega (arith, c.type_inv.counts o.count-index))

pub returns : goal.returns
returns c =
    let s = c.args.counts.now in
    let l = c.loop-count in
    rw (le-leb (length s) MOST (omega arith)) (sum-end s l.count-index l.l l.invariant.0 (omega arith))
