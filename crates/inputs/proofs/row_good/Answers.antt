use Rattle.std.specs.Prelude.{◌+◌, ◌*◌, ◌≤◌}
use Rattle.lists.specs.Kit.{sym, ap, ◌∙◌, arith, length, rules}
use Rattle.lists.specs.Over.{in-chunks}
use Rattle.area.specs.Sizes.{size-masks}
use Rattle.inputs.specs.OpeningLaws.{row-own, row_other}
use Rattle.inputs.proofs.row_good.Goals as goal
use Rattle.inputs.proofs.row_good.Goals.{After-leaky-count}

pub returns-then-f-k : goal.returns-then-f-k
returns-then-f-k c = row-own c.args.f c.args.masks.now c.args.k c.if-f-k.true

-- the row lies within
inside : (c : After-leaky-count) → c.args.k * c.leaky-count.result + c.leaky-count.result ≤ length c.args.masks.now
inside c =
    omega (
      arith,
      in-chunks c.args.k c.args.f.n c.leaky-count.result c.requires.2,
      c.requires.1 ∙ size-masks c.args.f ∙ ap (λ m. c.args.f.n * m) (sym c.leaky-count.ensures),
    )

pub overflow_mul-at : goal.overflow_mul-at
overflow_mul-at c = omega (arith, inside (goal.at.overflow_mul-at c).After-leaky-count)

pub all_of-requires : goal.all_of-requires
all_of-requires c k l =
    let fits = inside (goal.at.all_of-requires c).After-leaky-count in
    search rules

pub returns : goal.returns
returns c =
    row_other c.args.f c.args.masks.now c.args.k c.leaky-count.result c.all_of.result c.if-f-k.false c.leaky-count.ensures
    (c.all_of.ensures _ (λ k r l h. search rules))
