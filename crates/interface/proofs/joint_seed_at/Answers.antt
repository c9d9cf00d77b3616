use Rattle.interface.specs.Interface.{joint_at}
use Rattle.interface.proofs.joint_seed_at.Goals as goal

pub returns : goal.returns
unfolding joint_at
returns c = c.section_or_0.ensures
