-- `fhaand` (document 01, "What each round means"; WRK17b, Pi_HaAND): the half AND. Round 14. `recs` is the list of records, `m k` the
-- message of party k. What `flaand` needs of the same hashes is computed here, so that none is computed twice.
use Rattle.std.specs.Prelude.{Bool, cond, List, [], ◌∷◌, ◌++◌, ℕ, ◌+◌, ◌*◌, get_or}
use Rattle.lists.specs.Over.{cat}
use Rattle.algebra.specs.Group.{bits, addb, sel, odd, num}
use Rattle.algebra.specs.Sum.{others}
use Rattle.block.specs.declared.Block.{Block}
use Rattle.block.specs.Block.{block_at, bytes_of}
use Rattle.block.specs.Group.{blocks}
use Rattle.blake3.specs.Tree.{hash}
use Rattle.share.specs.Record.{record_len}
use Rattle.share.specs.Share.{Share, share_at}
use Rattle.encode.specs.Encode.{encode, two_bits}
use Rattle.plan.specs.Plan.{leaky}
use Rattle.engine.specs.declared.Frame.{Frame}
use Rattle.rounds.specs.Area.{leaky_len, rows}

-- "Shares split in three runs x, y, r of l·b"
unfoldable pub x : Frame → List ℕ → ℕ → Share
x f recs t = share_at recs (t * record_len f.n)

unfoldable pub y : Frame → List ℕ → ℕ → Share
y f recs t = share_at recs ((leaky f.l + t) * record_len f.n)

unfoldable pub r : Frame → List ℕ → ℕ → Share
r f recs t = share_at recs ((2 * leaky f.l + t) * record_len f.n)

-- "H is the lowest bit of hash byte 31"
unfoldable pub H : Block → Bool
H b = odd (get_or (hash (bytes_of b)) 31 0)

-- "G is the first 16 hash bytes"
unfoldable pub G : Block → Block
G b = block_at (hash (bytes_of b)) 0

-- the mask s for party k at position t
unfoldable pub mask : Frame → List ℕ → ℕ → ℕ → Bool
mask f masks k t = odd (get_or masks (k * leaky f.l + t) 0)

-- "Per x share send to j: H(key of j) + s and H(that key + delta) + s + y, s the mask."
unfoldable pub h0 : Frame → List ℕ → List ℕ → ℕ → ℕ → Bool
h0 f masks recs j t = addb (H ((x f recs t).key j)) (mask f masks j t)

unfoldable pub h1 : Frame → Block → List ℕ → List ℕ → ℕ → ℕ → Bool
h1 f delta masks recs j t =
    addb (addb (H (blocks.op ((x f recs t).key j) delta)) (mask f masks j t)) (y f recs t).bit

unfoldable pub haand_msg : Frame → Block → List ℕ → List ℕ → ℕ → List ℕ
haand_msg f delta masks recs j = encode (leaky f.l) (λ t. two_bits (h0 f masks recs j t) (h1 f delta masks recs j t))

-- ---- kept for `flaand`
-- "phi sums y's keys and MACs, and delta where y is 1"
unfoldable pub phi : Frame → Block → List ℕ → ℕ → Block
phi f delta recs t =
    blocks.op (others blocks f.i f.n (λ k. blocks.op ((y f recs t).key k) ((y f recs t).mac k))) (sel blocks (y f recs t).bit delta)

-- "u = G(x key of j) + G(that + delta) + phi"
unfoldable pub u : Frame → Block → List ℕ → ℕ → ℕ → Block
u f delta recs j t =
    blocks.op (blocks.op (G ((x f recs t).key j)) (G (blocks.op ((x f recs t).key j) delta))) (phi f delta recs t)

-- a row of LEAKY: phi, the sum of G over the x keys, and for each party u and the two bits H; zero for the own
unfoldable pub leaky_entry : Frame → Block → List ℕ → ℕ → ℕ → List ℕ
leaky_entry f delta recs t j =
    bytes_of (u f delta recs j t) ++ (num (H ((x f recs t).key j)) ∷ num (H (blocks.op ((x f recs t).key j) delta)) ∷ [])

unfoldable pub leaky_row : Frame → Block → List ℕ → ℕ → List ℕ
leaky_row f delta recs t =
    bytes_of (phi f delta recs t) ++
    (bytes_of (others blocks f.i f.n (λ j. G ((x f recs t).key j))) ++ rows f 18 (leaky_entry f delta recs t))

unfoldable pub leaky_rows : Frame → Block → List ℕ → List ℕ
leaky_rows f delta recs = cat (leaky f.l) (leaky_row f delta recs)

-- what such rows hold
unfoldable pub phi_at : Frame → List ℕ → ℕ → Block
phi_at f rows t = block_at rows (t * leaky_len f.n)

unfoldable pub key_hash : Frame → List ℕ → ℕ → Block
key_hash f rows t = block_at rows (t * leaky_len f.n + 16)

unfoldable pub u_at : Frame → List ℕ → ℕ → ℕ → Block
u_at f rows j t = block_at rows (t * leaky_len f.n + (32 + j * 18))

-- ---- what is received
-- "v sums each s and, per j, H(MAC for j) + the first received bit, or the second where x is 1"
unfoldable pub v : Frame → List ℕ → List ℕ → (ℕ → List ℕ) → ℕ → Bool
v f masks recs m t =
    others bits f.i f.n (λ j. addb (mask f masks j t) (addb (H ((x f recs t).mac j))
    (cond (x f recs t).bit (odd (get_or (m j) (8 + t * 2 + 1) 0)) (odd (get_or (m j) (8 + t * 2) 0)))))

-- "z = v + x·y" (`flaand`)
unfoldable pub z : Frame → List ℕ → List ℕ → (ℕ → List ℕ) → ℕ → Bool
z f masks recs m t = addb (v f masks recs m t) (sel bits (x f recs t).bit (y f recs t).bit)

-- a row of ZS: z, and the sum of G over the x MACs
unfoldable pub z_row : Frame → List ℕ → List ℕ → (ℕ → List ℕ) → ℕ → List ℕ
z_row f masks recs m t = num (z f masks recs m t) ∷ bytes_of (others blocks f.i f.n (λ j. G ((x f recs t).mac j)))

unfoldable pub z_rows : Frame → List ℕ → List ℕ → (ℕ → List ℕ) → List ℕ
z_rows f masks recs m = cat (leaky f.l) (z_row f masks recs m)

-- what such rows hold
unfoldable pub z_at : List ℕ → ℕ → Bool
z_at rows t = odd (get_or rows (t * 17) 0)

unfoldable pub mac_hash : List ℕ → ℕ → Block
mac_hash rows t = block_at rows (t * 17 + 1)
