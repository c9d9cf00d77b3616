use Rattle.std.specs.Prelude.{◌+◌, ◌-◌, ◌*◌}
use Rattle.lists.specs.Kit.{refl, arith, rules}
use Rattle.lists.specs.Over.{written-zero}
use Rattle.lists.specs.Rows.{even-put, even-end}
use Rattle.block.specs.Block.{bytes_of}
use Rattle.block.specs.Trip.{length-bytes_of}
use Rattle.rbits.specs.Chosen.{pair_at}
use Rattle.rounds.specs.Fabitn.{STRINGS}
use Rattle.fabitn.proofs.write_blocks.Goals as goal

pub loop-j-init : goal.loop-j-init
loop-j-init c = (written-zero _ _)

pub loop-j-preserved : goal.loop-j-preserved
loop-j-preserved c =
    let j = c.loop-j.j in (even-put (λ j. bytes_of (pair_at c.args.words.now (c.args.base + j))) STRINGS 16 c.args.out.now
    c.requires.out_len j
    (j * 16 + 16) c.loop-j.out c.store.new.out
    (omega arith) c.loop-j.invariant (length-bytes_of _) c.store.ensures refl)

pub shape_of-out : goal.shape_of-out
shape_of-out c = c.loop-j.invariant.same

pub returns : goal.returns
returns c = even-end _ STRINGS 16 _ c.requires.out_len c.loop-j.j _ c.loop-j.invariant (omega arith)
