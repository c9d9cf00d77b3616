use Rattle.std.specs.Prelude.{◌+◌, ◌*◌, ◌≤◌}
use Rattle.lists.specs.Kit.{ap, ◌∙◌, arith, length}
use Rattle.haand_hash.specs.WindowLaws.{g-read, h-read}
use Rattle.haand_hash.proofs.hash_of.Goals as goal
use Rattle.haand_hash.proofs.hash_of.Goals.{After-place-at}

-- the hash lies within
inside : (c : After-place-at) → c.place-at.result * 32 + 32 ≤ length c.args.s.now
inside c = omega (arith, ap (λ q. q * 32) c.place-at.ensures, c.requires.1)

pub place-at-requires : goal.place-at-requires
place-at-requires c = c.requires.0

pub overflow_mul-at : goal.overflow_mul-at
overflow_mul-at c = omega (arith, inside (goal.at.overflow_mul-at c).After-place-at)

pub load-requires : goal.load-requires
load-requires c = omega (arith, inside (goal.at.load-requires c).After-place-at)

pub overflow_add-at : goal.overflow_add-at
overflow_add-at c = omega (arith, inside (goal.at.overflow_add-at c).After-place-at)

pub bit-requires : goal.bit-requires
bit-requires c = omega (arith, inside (goal.at.bit-requires c).After-place-at)

pub returns : goal.returns
returns c = (
  c.load.ensures ∙ g-read c.args.i c.args.k c.place-at.result c.args.s.now c.place-at.ensures,
  c.bit.ensures ∙ h-read c.args.i c.args.k c.place-at.result c.args.s.now c.place-at.ensures,
)
