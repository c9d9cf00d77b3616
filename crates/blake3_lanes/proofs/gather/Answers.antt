use Rattle.lists.specs.Kit.{refl, ap, ◌∙◌, arith}
use Rattle.lists.specs.Over.{tab-zero, tab-turn, tab-end}
use Rattle.blake3_lanes.specs.Lanes.{words_of, words_at}
use Rattle.blake3_lanes.proofs.gather.Goals as goal

pub loop-t-init : goal.loop-t-init
loop-t-init c = tab-zero _ _

pub load-requires : goal.load-requires
load-requires c = omega (arith, c.requires)

pub loop-t-preserved : goal.loop-t-preserved
unfolding words_at
loop-t-preserved c =
    tab-turn c.loop-t.t _ _ c.loop-t.ms _ c.loop-t.invariant (c.split.ensures ∙ ap words_of c.load.ensures) c.loop-t-test.true

pub returns : goal.returns
returns c = tab-end c.loop-t.t 64 _ _ c.loop-t.ms c.loop-t.invariant (omega arith) refl
