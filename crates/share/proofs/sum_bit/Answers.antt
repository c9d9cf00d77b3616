use Rattle.lists.specs.Kit.{ap₂, ◌∙◌, Bool, not}
use Rattle.algebra.specs.Group.{xor-addb}
use mathlib.Core.Bool.{beq}
use Rattle.share.specs.Record.{bit_at}
use Rattle.share.specs.Share.{share_at, shares}
use Rattle.share.proofs.sum_bit.Goals as goal

pub returns : goal.returns
unfolding shares share_at
returns c =
    ap₂ (λ (x y : Bool). not (beq x y)) c.bit_at.ensures c.bit_at-2.ensures
    ∙ xor-addb (bit_at c.args.s.now c.args.a) (bit_at c.args.t.now c.args.b)
