-- What echoes 7 and 16 hash of an encoded list of pairs: the bits alone, as an encoded list.
use Rattle.std.specs.Prelude.{ℕ, ◌+◌, ◌-◌, ◌*◌, ◌/◌, List, ◌++◌, length, get_or, take}
use Rattle.lists.specs.Over.{tab}

-- the 8 bytes of the count, and the first byte of each item of `stride` bytes
unfoldable pub firsts : ℕ → List ℕ → List ℕ
firsts stride s = take 8 s ++ tab ((length s - 8) / stride) (λ i. get_or s (8 + i * stride) 0)
