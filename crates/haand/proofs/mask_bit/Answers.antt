use Rattle.std.specs.Prelude.{◌+◌, ◌*◌, ◌<◌}
use Rattle.lists.specs.Kit.{ap, ◌∙◌, arith, length, get_or}
use Rattle.lists.specs.Over.{in-chunks}
use Rattle.algebra.specs.Group.{odd}
use Rattle.plan.specs.Plan.{leaky}
use Rattle.haand.proofs.mask_bit.Goals as goal
use Rattle.haand.proofs.mask_bit.Goals.{After-leaky}

-- it lies within the masks
inside : (c : After-leaky) → c.args.k * c.leaky.result + c.args.t < length c.args.masks.now
inside c =
    omega (arith, in-chunks c.args.k c.args.f.n (leaky c.args.f.l) c.requires.l_bound.1.0, c.requires.l_bound.1.1, ap (λ m. c.args.k * m) c.leaky.ensures)

pub returns : goal.returns
returns c =
    c.bit.ensures ∙ ap (λ m. odd (get_or c.args.masks.now (c.args.k * m + c.args.t) 0)) c.leaky.ensures

pub overflow_mul-k : goal.overflow_mul-k
overflow_mul-k c = omega (arith, inside (goal.at.overflow_mul-k c).After-leaky)

pub overflow_add-k : goal.overflow_add-k
overflow_add-k c = omega (arith, inside (goal.at.overflow_add-k c).After-leaky)

pub bit-requires : goal.bit-requires
bit-requires c = inside (goal.at.bit-requires c).After-leaky
