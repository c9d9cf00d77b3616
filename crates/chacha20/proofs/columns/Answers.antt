use Rattle.chacha20.specs.ChaCha20Laws.{in-columns}
use Rattle.chacha20.proofs.columns.Goals as goal

pub returns : goal.returns
returns c =
    in-columns _ c.qround.ensures c.qround-2.ensures c.qround-3.ensures c.qround-4.ensures
