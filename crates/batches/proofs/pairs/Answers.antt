use Rattle.lists.specs.Kit.{refl, arith}
use Rattle.batches.specs.Turns.{sum-none, sum-turn, at-within, told_none, told-turn, told-end}
use Rattle.batches.proofs.pairs.Goals as goal

pub loop-j-init : goal.loop-j-init
loop-j-init c = (sum-none c.args.counts, told_none c.args.counts)

pub overflow_add-at : goal.overflow_add-at
overflow_add-at c =
    let o = c.loop-j in
    omega (arith, at-within c.args.counts o.j o.at (omega arith) o.invariant.0)

pub loop-j-preserved : goal.loop-j-preserved
loop-j-preserved c =
    let s = c.args.counts in
    let o = c.loop-j in (
      sum-turn s o.j o.at _ o.invariant.0 refl,
      told-turn s o.j o.all _ _ o.at (omega arith) o.invariant.1 c.place.ensures o.invariant.0 refl,
    )

pub returns : goal.returns
returns c =
    let o = c.loop-j in
    told-end c.args.counts o.j o.all o.invariant.1 (omega arith)
