use Rattle.std.specs.Prelude.{◌+◌, ◌*◌}
use Rattle.lists.specs.Kit.{◌∙◌, arith, rules}
use Rattle.lists.specs.Over.{written-zero, written-turn, written-end}
use Rattle.blake3_lanes.specs.Lanes.{hash_at}
use Rattle.blake3_lanes.specs.LaneLaws.{length-hash_at, lane-hash}
use Rattle.blake3_lanes.proofs.hash_window.Goals as goal

pub loop-t-init : goal.loop-t-init
loop-t-init c = written-zero _ _

pub slice_bounds-store-end : goal.slice_bounds-store-end
slice_bounds-store-end c =
    omega (arith, c.loop-t.invariant.same, c.loop-t-test.true, c.requires.out_len)

pub loop-t-preserved : goal.loop-t-preserved
loop-t-preserved c =
    written-turn (hash_at c.args.blocks.now) c.loop-t.t (c.loop-t.t * 32) (c.loop-t.t * 32 + 32) ((c.loop-t.t + 1) * 32)
    c.args.out.now c.loop-t.out _ c.loop-t.invariant
    (c.store.ensures ∙ lane-hash c.args.blocks.now 64 _ _ _ c.loop-t.t (λ j. search rules)
    c.gather.ensures c.lanes-ds.ensures c.loop-t-test.true)
    (omega (arith, length-hash_at c.args.blocks.now c.loop-t.t)) (omega (arith, c.loop-t-test.true, c.requires.out_len)) (omega arith)

pub shape_of-out : goal.shape_of-out
shape_of-out c = c.loop-t.invariant.same

pub returns : goal.returns
returns c =
    written-end (hash_at c.args.blocks.now) c.loop-t.t 64 (c.loop-t.t * 32) c.args.out.now c.loop-t.out c.loop-t.invariant (omega arith)
    (omega (arith, c.requires.out_len))
