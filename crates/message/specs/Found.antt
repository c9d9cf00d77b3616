-- What the code tells of what it looked for: nothing, or what it found.
use Rattle.std.specs.Prelude.{◌≡◌, ℕ, ◌<◌, Option, None, Some}
use Rattle.message.specs.declared.Kind.{Kind}
use Rattle.message.specs.declared.Reading.{Reading}
use Rattle.message.specs.Format.{Decoding, Undecoded, used_of, due_of}

-- a length: a value that is there takes at least a byte
abbrev pub Long : ℕ → Option ℕ → Type 0
Long n None = n ≡ 0
Long n (Some k) = (k ≡ n) × (0 < k)

-- what was read of a message
abbrev pub Told : Kind → ℕ → Decoding → Option Reading → Type 0
Told K count d None = d ≡ Undecoded
Told K count d (Some r) = (0 < r.used) × (r.used ≡ used_of d) × (r.due ≡ due_of K count d)
