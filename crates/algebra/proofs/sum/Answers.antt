use Rattle.std.specs.Prelude.{◌≡◌}
use Rattle.std.proofs.Common.{sym, ap, ap₂, ◌∙◌, arith}
use Rattle.algebra.specs.Sum.{sum, sum-turn}
use Rattle.algebra.proofs.sum.Goals as goal

pub loop-j-init : goal.loop-j-init
unfolding sum
loop-j-init g c t h = c.zero-all.ensures

pub loop-j-preserved : goal.loop-j-preserved
loop-j-preserved g c t h =
    c.xor-all.ensures
    ∙ ap₂ g.T.Xor.group.op (c.loop-j.invariant t h) (h c.loop-j.j _ c.loop-j-test.true c.term.ensures)
    ∙ sym (sum-turn g.T.Xor.group c.loop-j.j t)

pub returns : goal.returns
returns g c t h = c.loop-j.invariant t h ∙ ap (λ m. sum g.T.Xor.group m t) (let e : c.loop-j.j ≡ c.args.n = omega arith in e)
