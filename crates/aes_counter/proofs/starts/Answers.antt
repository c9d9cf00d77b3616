use Rattle.std.specs.Prelude.{◌+◌, ◌*◌}
use Rattle.lists.specs.Kit.{refl, ◌∙◌, set, arith}
use lib.ListN.{length-set}
use Rattle.lists.specs.Over.{tab-zero}
use Rattle.aes_counter.specs.Starts.{start_at}
use Rattle.aes_counter.specs.StartLaws.{starts-turn, starts-end}
use Rattle.aes_counter.proofs.starts.Goals as goal

pub loop-i-init : goal.loop-i-init
loop-i-init c = (refl, tab-zero (start_at c.args.key.now.tables.words c.args.key.now.words) _)

pub loop-i-preserved : goal.loop-i-preserved
loop-i-preserved c = (
  length-set (set c.loop-i.out (c.loop-i.i * 2) c.from-b.result.0) (c.loop-i.i * 2 + 1) c.from-b.result.1
      ∙ length-set c.loop-i.out (c.loop-i.i * 2) c.from-b.result.0 ∙ c.loop-i.invariant.0,
  starts-turn c.args.key.now.tables.words c.args.key.now.words _ c.loop-i.out c.loop-i.i c.part.result c.from-b.result
      c.loop-i-test.true refl c.loop-i.invariant.1 c.part.ensures c.from-b.ensures,
)

pub returns : goal.returns
returns c =
    starts-end c.args.key.now.tables.words c.args.key.now.words _ c.loop-i.out c.loop-i.i c.args.key.now.tables.right
    (omega arith) refl c.loop-i.invariant.1
