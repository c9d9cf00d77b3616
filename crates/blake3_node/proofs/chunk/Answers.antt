use native.Mathlib.Numerals.{add-one}
use Rattle.std.specs.Prelude.{◌≡◌, ◌/◌}
use Rattle.lists.specs.Kit.{refl, sym, ap, ◌∙◌, ℕ, arith}
use Rattle.blake3_node.specs.Node as N
use Rattle.blake3_node.proofs.Blocks.{next, last}
use Rattle.blake3_node.proofs.chunk.Goals as goal

pub loop-k-init : goal.loop-k-init
unfolding N.after
loop-k-init c = (refl, refl, omega arith)

pub loop-k-preserved : goal.loop-k-preserved
loop-k-preserved c = (
  next _ _ c.loop-k.k _ c.loop-k.invariant.0 c.loop-k.invariant.1 c.whole-m.ensures c.compress-h.ensures,
  rw add-one,
  omega arith,
)

pub returns : goal.returns
returns c =
    let n = c.saturating_sub-last.result / 64 in
    let e : c.loop-k.k ≡ n = omega arith in
    last c.args.s.now _ _ n _ (c.loop-k.invariant.0 ∙ ap (λ (k : ℕ). N.after k c.args.s.now c.args.t) e)
    (c.loop-k.invariant.1 ∙ ap N.start_flag e) c.rest-m.ensures
    (ap (λ (m : ℕ). m / 64) (sym c.saturating_sub-last.ensures)) c.compress.ensures
