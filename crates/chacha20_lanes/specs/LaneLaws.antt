-- A lane's words, from the bytes of its block.
use Rattle.std.specs.Prelude.{◌≡◌, refl, List, ℕ, ◌*◌, ◌<◌, get_or, replicate}
use Rattle.std.proofs.Common.{sym, ap, ◌∙◌}
use Rattle.lists.specs.Over.{tab}
use Rattle.word.specs.Word.{word, word_at, word_list}
use Rattle.chacha20.specs.ChaCha20.{words, block}
use Rattle.chacha20.specs.ChaCha20Laws.{block-word}
use Rattle.chacha20_lanes.specs.Lanes.{NONCE, lane_of}

-- the nonce of zero, as bytes
zeros : word_list 3 (replicate 12 0) ≡ NONCE
unfolding word_list tab word
zeros = refl

pub lane_word : (key : List ℕ) (counter i : ℕ) → i < 16
    → get_or (lane_of (word_list 8 key) counter).0 i 0 ≡ word_at (i * 4) (block key counter (replicate 12 0))
unfolding lane_of
lane_word key counter i h =
    ap (λ (n : List ℕ). get_or (words (word_list 8 key) counter n) i 0) (sym zeros) ∙ sym (block-word key counter (replicate 12 0) i h)
