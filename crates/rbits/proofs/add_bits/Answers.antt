use Rattle.lists.specs.Kit.{ap, arith}
use lib.Bits.{bit_xor, bit_and}
use Rattle.rbits.specs.Tables.{half_at, masked_at}
use Rattle.rbits.specs.LoopLaws.{filled_zero, filled-turn, filled-get, filled-end}
use Rattle.rbits.proofs.add_bits.Goals as goal

pub loop-j-init : goal.loop-j-init
loop-j-init c = filled_zero _ _

pub loop-j-preserved : goal.loop-j-preserved
loop-j-preserved c =
    let a = c.args in
    filled-turn (masked_at a.acc.now a.win.now a.h a.b) c.loop-j.j a.acc.now c.loop-j.acc _ c.loop-j.invariant
    (ap (λ x. bit_xor x (bit_and (half_at a.win.now a.h c.loop-j.j) a.b))
    (filled-get _ c.loop-j.j a.acc.now c.loop-j.acc c.loop-j.invariant (omega arith))) (omega arith)

pub shape_of-acc : goal.shape_of-acc
shape_of-acc c = c.loop-j.invariant.same

pub returns : goal.returns
returns c =
    let a = c.args in
    filled-end (masked_at a.acc.now a.win.now a.h a.b) c.loop-j.j 120 a.acc.now c.loop-j.acc
    c.loop-j.invariant (omega arith) (omega arith)
