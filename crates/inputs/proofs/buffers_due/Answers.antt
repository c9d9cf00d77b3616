use Rattle.lists.specs.Kit.{refl}
use Rattle.rounds.specs.Area.{sizes, size_of, work_len}
use Rattle.inputs.specs.Given.{buffers?}
use Rattle.inputs.proofs.buffers_due.Goals as goal

pub returns : goal.returns
unfolding buffers? work_len size_of sizes
returns c =
    rw (c.out_len.ensures, c.work_len.ensures, c.masks_len.ensures, c.pairs_len.ensures) refl
