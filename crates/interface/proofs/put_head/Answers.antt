use Rattle.lists.specs.Over.{sets-all}
use Rattle.interface.specs.Interface.{head_of}
use Rattle.interface.proofs.put_head.Goals as goal

pub returns : goal.returns
unfolding head_of
returns c =
    sets-all (head_of c.args.party c.args.due) c.args.out.now c.requires.out_len.0
