use Rattle.std.specs.Prelude.{◌≡◌}
use Rattle.lists.specs.Kit.{sym, ap, ◌∙◌, arith}
use Rattle.algebra.specs.Group.{bits, xor-addb}
use Rattle.algebra.specs.Sum.{others, others-zero, others-own, others-more}
use Rattle.block.specs.Group.{blocks}
use Rattle.haand_hash.specs.Window.{g_at, h_at}
use Rattle.haand_recv.proofs.sums.Goals as goal
use Rattle.haand_recv.proofs.sums.Goals.{then-k-f, else-k-f}

pub loop-k-init : goal.loop-k-init
loop-k-init c = (c.zero-g.ensures ∙ others-zero blocks _ _, others-zero bits _ _)

pub loop-k-preserved : goal.loop-k-preserved
loop-k-preserved c =
    let i = c.args.f.i in
    let s = c.args.hashes.now in
    let k = c.loop-k.k in
    elim c.if-k-f.branch [
      | then-k-f w ↦ (
        w.g-is ∙ w.xor-g.ensures ∙ others-more blocks i k (g_at i s) c.loop-k.g _ (λ e. w.if-k-f.true (sym e)) c.loop-k.invariant.0
            w.hash_by-a.ensures.0,
        w.h-is ∙ xor-addb c.loop-k.h w.hash_by-a.result.1 ∙ others-more bits i k (h_at i s) c.loop-k.h _ (λ e. w.if-k-f.true (sym e))
            c.loop-k.invariant.1 w.hash_by-a.ensures.1,
      )
      | else-k-f w ↦ (
        w.g-is ∙ c.loop-k.invariant.0 ∙ others-own blocks i k (g_at i s) (sym w.if-k-f.false),
        w.h-is ∙
            c.loop-k.invariant.1 ∙ others-own bits i k (h_at i s) (sym w.if-k-f.false),
      )
    ]

pub returns : goal.returns
returns c =
    let e : c.loop-k.k ≡ c.args.f.n = omega arith in (
      c.loop-k.invariant.0 ∙ ap (λ m. others blocks c.args.f.i m (g_at c.args.f.i c.args.hashes.now)) e,
      c.loop-k.invariant.1 ∙ ap (λ m. others bits c.args.f.i m (h_at c.args.f.i c.args.hashes.now)) e,
    )
