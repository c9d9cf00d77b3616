use Rattle.lists.specs.Kit.{ap, ap₂, ◌∙◌, arith}
use Rattle.algebra.specs.Group.{sel}
use Rattle.block.specs.Group.{blocks}
use Rattle.fashare_dibi.proofs.opened.Goals as goal

pub d0-requires : goal.d0-requires
d0-requires c = (c.requires.0, c.requires.1.own)

pub others_bit-bit-requires : goal.others_bit-bit-requires
others_bit-bit-requires c =
    record { le_n = (omega (arith, c.requires.1.own.range.two), c.requires.1.own.range.eight); q_bound = (c.requires.0, c.requires.1.kept) }

pub returns : goal.returns
returns c =
    c.xor_delta-mac.ensures
    ∙ ap₂ blocks.op c.d0.ensures (c.times.ensures ∙ ap (λ t. sel blocks t c.args.delta.0) c.others_bit-bit.ensures)
