use Rattle.message.specs.Format.{item_len}
use Rattle.message.proofs.item_len.Goals as goal

pub returns-in-Dms : goal.returns-in-Dms
unfolding item_len
returns-in-Dms c = rw c.in-Dms.is c.vec_len.ensures
