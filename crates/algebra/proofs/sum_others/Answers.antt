use Rattle.std.specs.Prelude.{◌≡◌, ◌≢◌, ℕ}
use Rattle.std.proofs.Common.{sym, ap, ◌∙◌, arith}
use Rattle.algebra.specs.Group.{XorGroup, unit-r}
use Rattle.algebra.specs.Sum.{others, others-zero, others-own, others-more}
use Rattle.algebra.proofs.sum_others.Goals as goal
use Rattle.algebra.proofs.sum_others.Goals.{then-k-i, else-k-i}

pub loop-k-init : goal.loop-k-init
loop-k-init g c t h = c.zero-all.ensures ∙ others-zero g.T.Xor.group c.args.i t

pub loop-k-preserved : goal.loop-k-preserved
loop-k-preserved g c t h =
    elim c.if-k-i.branch [
      | then-k-i w ↦
          w.all-is ∙ w.xor-all.ensures
          ∙ others-more g.T.Xor.group c.args.i c.loop-k.k t c.loop-k.all _ (λ e. w.if-k-i.true (sym e)) (c.loop-k.invariant t h)
          (h c.loop-k.k _ c.loop-k-test.true (λ e. w.if-k-i.true (sym e)) w.term.ensures)
      | else-k-i w ↦ w.all-is ∙ c.loop-k.invariant t h ∙ others-own g.T.Xor.group c.args.i c.loop-k.k t (sym w.if-k-i.false)
    ]

pub returns : goal.returns
returns g c t h = c.loop-k.invariant t h ∙ ap (λ m. others g.T.Xor.group c.args.i m t) (let e : c.loop-k.k ≡ c.args.n = omega arith in e)
