use Rattle.std.specs.Prelude.{◌≡◌}
use Rattle.std.proofs.Common.{sym, ap, ◌∙◌, arith}
use Rattle.lists.specs.All.{all_of, all-zero, all_more}
use Rattle.lists.proofs.all_of.Goals as goal

pub loop-k-init : goal.loop-k-init
loop-k-init g c t h = sym (all-zero t)

pub loop-k-preserved : goal.loop-k-preserved
loop-k-preserved g c t h =
    all_more t c.loop-k.k c.loop-k.good c.test-good.result (c.loop-k.invariant t h) (h c.loop-k.k _ c.loop-k-test.true c.test-good.ensures)

pub returns : goal.returns
returns g c t h = c.loop-k.invariant t h ∙ ap (λ m. all_of m t) (let e : c.loop-k.k ≡ c.args.n = omega arith in e)
