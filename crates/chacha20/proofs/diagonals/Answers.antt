use Rattle.chacha20.specs.ChaCha20Laws.{in-diagonals}
use Rattle.chacha20.proofs.diagonals.Goals as goal

pub returns : goal.returns
returns c =
    in-diagonals _ c.qround.ensures c.qround-2.ensures c.qround-3.ensures c.qround-4.ensures
