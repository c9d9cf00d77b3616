use Rattle.lists.specs.Kit.{arith}
use lib.ListN.{length-set}
use Rattle.lists.specs.Over.{cat, sets-all}
use Rattle.block.specs.Block.{xor_of}
use Rattle.rbits.specs.Chosen.{words_of}
use Rattle.rbits.specs.Tables.{sums, pair, sums8}
use Rattle.rbits.proofs.put_sums.Goals as goal

pub returns : goal.returns
unfolding sums8 sums words_of cat xor_of
returns c =
    let a = c.args in
    sets-all (sums8 (pair a.a0 a.a1) (pair a.b0 a.b1) (pair a.c0 a.c1) (pair a.y0 a.y1)) a.out.now c.requires

pub bounds-out-4 : goal.bounds-out-4
bounds-out-4 c = simp length-set (omega arith)

pub bounds-out-5 : goal.bounds-out-5
bounds-out-5 c = simp length-set (omega arith)

pub bounds-out-6 : goal.bounds-out-6
bounds-out-6 c = simp length-set (omega arith)

pub bounds-out-7 : goal.bounds-out-7
bounds-out-7 c = simp length-set (omega arith)

pub bounds-out-8 : goal.bounds-out-8
bounds-out-8 c = simp length-set (omega arith)

pub bounds-out-9 : goal.bounds-out-9
bounds-out-9 c = simp length-set (omega arith)

pub bounds-out-10 : goal.bounds-out-10
bounds-out-10 c = simp length-set (omega arith)

pub bounds-out-11 : goal.bounds-out-11
bounds-out-11 c = simp length-set (omega arith)

pub bounds-out-12 : goal.bounds-out-12
bounds-out-12 c = simp length-set (omega arith)

pub bounds-out-13 : goal.bounds-out-13
bounds-out-13 c = simp length-set (omega arith)

pub bounds-out-14 : goal.bounds-out-14
bounds-out-14 c = simp length-set (omega arith)

pub bounds-out-15 : goal.bounds-out-15
bounds-out-15 c = simp length-set (omega arith)

pub shape_of-out : goal.shape_of-out
shape_of-out c = simp length-set
