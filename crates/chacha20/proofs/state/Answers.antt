use Rattle.lists.specs.Kit.{refl}
use Rattle.chacha20.specs.ChaCha20 as C
use Rattle.chacha20.proofs.state.Goals as goal

pub returns : goal.returns
unfolding C.state
returns c = refl
