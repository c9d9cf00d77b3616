-- Blocks side by side: what a lane holds.
use Rattle.std.specs.Prelude.{List, [], ◌∷◌, ℕ}
use Rattle.chacha20.specs.ChaCha20.{words}
use Rattle.chacha20_lanes.specs.declared.Lane.{Lane}

-- as many blocks as are made side by side
abbrev pub LANES : ℕ
LANES = 4

-- "nonce zero" (02, order 6)
abbrev pub NONCE : List ℕ
NONCE = 0 ∷ 0 ∷ 0 ∷ []

-- the words of the block with this counter
unfoldable pub lane_of : List ℕ → ℕ → Lane
lane_of key counter = record { 0 = words key counter NONCE }
