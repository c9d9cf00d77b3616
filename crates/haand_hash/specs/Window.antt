-- A window of round 14: Blocks of whole positions, a lane for each other party, and their hashes.
use Rattle.std.specs.Prelude.{◌≡◌, Bool, List, ℕ, ◌+◌, ◌-◌, ◌*◌, ◌<◌, ◌≤◌, length, get_or, take, drop, ltb}
use Rattle.lists.specs.Pick.{pick}
use Rattle.algebra.specs.Group.{odd}
use Rattle.block.specs.declared.Block.{Block}
use Rattle.block.specs.Block.{block_at, bytes_of}
use Rattle.blake3.specs.Tree.{hash}
use Rattle.share.specs.Record.{record_len, mac_at, key_at}
use Rattle.plan.specs.Plan.{leaky, bits_count}
use Rattle.engine.specs.declared.Frame.{Frame}
use Rattle.engine.specs.Step.{stretch}
use Rattle.engine.specs.Area.{to_others}
use Rattle.area.specs.Given.{Ranged}

-- the place of party k among those but i
abbrev pub place : ℕ → ℕ → ℕ
place i k = pick (ltb k i) k (k - 1)

-- the key of party k in the record at `at`, or the MAC for it
abbrev pub part_of : Bool → List ℕ → ℕ → ℕ → Block
part_of keys s at k = pick keys (key_at s at k) (mac_at s at k)

-- m positions from t on, and the records
pub record Positions (f : Frame) (t m : ℕ) (recs : List ℕ) : Type 0 where
  pub ranges : Ranged f
  pub records : length recs ≡ bits_count f.l * record_len f.n
  pub below : t + m ≤ leaky f.l

-- one position, and the records
pub record Asked (f : Frame) (t : ℕ) (recs : List ℕ) : Type 0 where
  pub ranges : Ranged f
  pub records : length recs ≡ bits_count f.l * record_len f.n
  pub below : t < leaky f.l

-- the hashes of g k, for each party k but i
abbrev pub hashes : Frame → (ℕ → Block) → List ℕ
hashes f g = to_others f.n f.i (λ k. hash (bytes_of (g k)))

-- a window's hashes: from byte `from` on, those of g p for each of m positions p
pub record Hashed (f : Frame) (m from : ℕ) (g : ℕ → ℕ → Block) (s : List ℕ) : Type 0 where
  pub long : length s ≡ 2048
  pub at : (p : ℕ) → p < m → take ((f.n - 1) * 32) (drop (from + p * ((f.n - 1) * 32)) s) ≡ hashes f (g p)

-- G and H of party k, read from the hashes of a position
unfoldable pub g_at : ℕ → List ℕ → ℕ → Block
g_at i s k = block_at (stretch 32 i k s) 0

unfoldable pub h_at : ℕ → List ℕ → ℕ → Bool
h_at i s k = odd (get_or (stretch 32 i k s) 31 0)
