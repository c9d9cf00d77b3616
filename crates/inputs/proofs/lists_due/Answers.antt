use Rattle.lists.specs.Kit.{refl}
use Rattle.inputs.specs.Given.{lists?}
use Rattle.inputs.proofs.lists_due.Goals as goal

pub returns : goal.returns
unfolding lists?
returns c = rw (c.bits_len.ensures, c.shares_len-shares.ensures) refl
