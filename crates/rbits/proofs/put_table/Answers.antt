use Rattle.lists.specs.Kit.{◌∙◌, arith}
use Rattle.lists.specs.Over.{over-put, over-full}
use Rattle.block.specs.Block.{zero_of}
use Rattle.block.specs.Group.{blocks}
use Rattle.rbits.specs.Tables.{sums8, four, table4}
use Rattle.rbits.specs.TableLaws.{length-sums8, length-table4, table4-halves}
use Rattle.rbits.proofs.put_table.Goals as goal

pub returns : goal.returns
unfolding blocks zero_of
returns c =
    let a = c.args in
    rw (c.put_sums.ensures, c.put_sums-2.ensures)
    (over-put (sums8 a.a a.b a.c blocks.nil) (sums8 a.a a.b a.c a.d) a.out.now 16 16
    (length-sums8 a.a a.b a.c blocks.nil)
    ∙ rw table4-halves
    (over-full (table4 (four a.a a.b a.c a.d)) a.out.now 32
    (omega (arith, length-table4 (four a.a a.b a.c a.d)))))
