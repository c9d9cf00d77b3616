use Rattle.lists.specs.Kit.{refl}
use Rattle.aes_counter.specs.Starts.{pieces_of}
use Rattle.aes_counter.proofs.pieces.Goals as goal

pub returns : goal.returns
unfolding pieces_of
returns c = refl
