-- Where a message lies in the incoming buffer: one start and one length.
use Rattle.std.specs.Prelude.{ℕ, ◌+◌, Bool, leb}

-- a part of `len` bytes from `start` lies within a buffer of `total` bytes
unfoldable pub inside : ℕ → ℕ → ℕ → Bool
inside total start len = leb (start + len) total
