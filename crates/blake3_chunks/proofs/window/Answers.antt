use Rattle.std.specs.Prelude.{◌≡◌}
use Rattle.lists.specs.Kit.{refl, ap, ◌∙◌, arith}
use native.Mathlib.Numerals.{add-one}
use Rattle.lists.specs.Over.{tab}
use Rattle.blake3_node.specs.Node.{after}
use Rattle.blake3_chunks.specs.ChunkLaws.{before, lanes_next, lanes-last}
use Rattle.blake3_chunks.proofs.window.Goals as goal

pub loop-k-init : goal.loop-k-init
unfolding tab before after
loop-k-init c = (refl, refl)

pub loop-k-preserved : goal.loop-k-preserved
loop-k-preserved c =
    let l = c.loop-k in (
      lanes_next c.args.s.now c.args.t l.k l.d l.hs c.lanes-next.result c.lows-ls.result c.highs-us.result
          l.invariant.0 c.lows-ls.ensures c.highs-us.ensures c.lanes-next.ensures l.invariant.1,
      rw add-one,
    )

pub returns : goal.returns
returns c =
    let l = c.loop-k in
    let e : l.k ≡ 15 = omega arith in
    lanes-last c.args.s.now c.args.t 15 2 l.hs c.lanes.result c.lows-ls.result c.highs-us.result
    (l.invariant.0 ∙ ap (λ k. tab 4 (before c.args.s.now c.args.t k)) e)
    c.lows-ls.ensures c.highs-us.ensures c.lanes.ensures c.requires.s_len refl refl
