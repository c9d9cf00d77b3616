use Rattle.lists.specs.Kit.{ap, ◌∙◌, List, ℕ}
use Rattle.fips197.specs.Cipher as C
use Rattle.aes_key.specs.Words.{words_bytes}
use Rattle.block.specs.Block.{bytes_of}
use Rattle.aes.specs.ColumnLaws.{bytes_of-block}
use Rattle.aes.proofs.encrypt.Goals as goal

pub returns : goal.returns
unfolding C.cipher
returns c =
    let w = words_bytes 44 c.args.key.now.words in
    ap bytes_of c.from.ensures ∙ bytes_of-block c.last_round.result ∙ c.last_round.ensures
    ∙ ap (λ (s : List ℕ). C.add_round_key w 10 (C.shift_rows (C.sub_bytes s))) c.rounds.ensures
