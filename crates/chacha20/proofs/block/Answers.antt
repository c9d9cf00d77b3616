use Rattle.chacha20.specs.ChaCha20Laws.{in_block}
use Rattle.chacha20.proofs.block.Goals as goal

pub returns : goal.returns
returns c =
    let a = c.args in
    in_block a.key.now a.counter a.nonce.now c.key_words-k.ensures c.nonce_words-n.ensures c.words-v.ensures
    c.serialize.ensures
