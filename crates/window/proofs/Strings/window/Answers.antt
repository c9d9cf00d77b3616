use Rattle.std.specs.Prelude.{◌+◌, ◌*◌, ◌<◌}
use Rattle.lists.specs.Kit.{arith}
use Rattle.lists.specs.Over.{written-zero, written-end}
use Rattle.rbits.specs.Chosen.{words_of}
use Rattle.rbits.specs.Tables.{window_of}
use Rattle.window.specs.WindowLaws.{block_within, whole-within, strings-turn}
use Rattle.window.proofs.Strings.window.Goals as goal
use Rattle.window.proofs.Strings.window.Goals.{In-loop-k}

pub loop-k-init : goal.loop-k-init
loop-k-init c = written-zero _ _

-- both Blocks are among the strings'
inside : (c : In-loop-k) → c.loop-k.k * 2 * c.args.blocks + c.args.q + c.args.blocks < 120 * c.args.blocks
inside c = let e = block_within c.args.blocks c.args.q (c.loop-k.k * 2 + 1) (omega arith) c.requires.q_lt_blocks.0 in omega (arith, e)

pub two_at-requires : goal.two_at-requires
two_at-requires c =
    let h = inside (goal.at.two_at-requires c).In-loop-k in
    record {
      c_bound = (omega (arith, h), omega (arith, h));
      whole = (
        whole-within c.args.self.now.r.now c.args.blocks _ c.requires.whole (omega (arith, h)),
        whole-within c.args.self.now.r.now c.args.blocks _ c.requires.whole h,
      );
    }

pub loop-k-preserved : goal.loop-k-preserved
loop-k-preserved c =
    let h = inside (goal.at.loop-k-preserved c).In-loop-k in
    strings-turn c.args.self.now.r.now c.args.blocks c.args.q (c.loop-k.k * 2) ((c.loop-k.k + 1) * 2) c.args.out.now c.loop-k.out
    c.two_at.result.0 c.two_at.result.1 (omega arith) c.loop-k.invariant
    (c.two_at.ensures.by_index (120 * c.args.blocks) (omega (arith, h))) (c.two_at.ensures.by_index_2 (120 * c.args.blocks) h) (omega arith)

pub returns : goal.returns
unfolding window_of words_of
returns c = written-end _ (c.loop-k.k * 2) 120 (c.loop-k.k * 2 * 2) _ c.loop-k.out c.loop-k.invariant (omega arith) (omega arith)
