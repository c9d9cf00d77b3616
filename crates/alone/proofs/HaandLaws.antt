-- What LEAKY and ZS hold, read back: phi, the sums of G and u; z and the sum of G over the x MACs.
use Rattle.std.specs.Prelude.{◌≡◌, ◌≢◌, length, get_or}
use Rattle.std.proofs.Math.Path.{sym, ap}
use Rattle.std.proofs.Common.{◌∙◌, add-zero, drop_at}
use mathlib.Core.List.{List, ◌++◌}
use Prim.Native.Nat.{ℕ, ◌+◌, ◌*◌, ◌<◌, ◌≤◌}
use native.Mathlib.Omega.{arith}
use Rattle.lists.specs.Over.{length-cat}
use Rattle.lists.specs.Bytes.{Bytes}
use Rattle.algebra.specs.Group.{odd, num, odd-num}
use Rattle.algebra.specs.Sum.{others}
use Rattle.block.specs.declared.Block.{Block}
use Rattle.block.specs.Block.{block_at, bytes_of, Small}
use Rattle.block.specs.Group.{blocks}
use Rattle.block.specs.Trip.{small_at, small-xor, small-sel, small-others, length-bytes_of, block-bytes_of, block_at_lem, block-drop, block-chunk}
use Rattle.blake3.specs.Tree.{digest, hash}
use Rattle.blake3.specs.ByteLaws.{bytes-bytes}
use Rattle.share.specs.Share.{share_at}
use Rattle.share.specs.RecordLaws.{small-mac, small-key}
use Rattle.plan.specs.Plan.{leaky}
use Rattle.engine.specs.declared.Frame.{Frame}
use Rattle.rounds.specs.Area.{leaky_len, rows}
use Rattle.rounds.specs.Haand.{x, y, G, phi, u, leaky_entry, leaky_row, leaky_rows, phi_at, key_hash, u_at, z, z_row, z_rows, z_at, mac_hash}
use Rattle.rounds.specs.HaandLaws.{length-leaky_entry, length-leaky_row, length-z_row}
use Rattle.alone.specs.Base.{chunk-rows}
use Rattle.alone.specs.Cells.{row-byte, row_block, behind-byte}

-- ---- what is kept fits Blocks
pub bytes-hash : (s : List ℕ) → Bytes (hash s)
unfolding hash
bytes-hash s = bytes-bytes (digest s)

pub small-G : (b : Block) → Small (G b)
unfolding G
small-G b = small_at (hash (bytes_of b)) (bytes-hash (bytes_of b)) 0

module _ (f : Frame) (delta : Block) (recs : List ℕ) (sd : Small delta) (hb : Bytes recs) (t : ℕ) where
  pub small-phi : Small (phi f delta recs t)
  unfolding phi y share_at
  small-phi =
      small-xor _ _ (small-others f.i f.n _ (λ k l. small-xor _ _ (small-key recs hb _ k) (small-mac recs hb _ k)))
      (small-sel (y f recs t).bit delta sd)

  pub small-u : (j : ℕ) → Small (u f delta recs j t)
  unfolding u
  small-u j = small-xor _ _ (small-xor _ _ (small-G _) (small-G _)) small-phi

small-hashes : (i n : ℕ) (g : ℕ → Block) → Small (others blocks i n (λ j. G (g j)))
small-hashes i n g = small-others i n _ (λ j l. small-G (g j))

-- ---- the rows of LEAKY
module _ (f : Frame) (delta : Block) (recs : List ℕ) where
  pub length-leaky_rows : length (leaky_rows f delta recs) ≡ leaky f.l * leaky_len f.n
  unfolding leaky_rows
  length-leaky_rows = length-cat (leaky f.l) (leaky_len f.n) (leaky_row f delta recs) (λ t l. length-leaky_row f delta recs t)

  module _ (sd : Small delta) (hb : Bytes recs) (t : ℕ) (lt : t < leaky f.l) where
    row_at : (o : ℕ) → o + 16 ≤ leaky_len f.n
        → block_at (leaky_rows f delta recs) (t * leaky_len f.n + o) ≡ block_at (leaky_row f delta recs t) o
    unfolding leaky_rows
    row_at o w = row_block (leaky_len f.n) (leaky f.l) (leaky_row f delta recs) (λ t l. length-leaky_row f delta recs t) t o lt w

    pub phi-read : phi_at f (leaky_rows f delta recs) t ≡ phi f delta recs t
    unfolding phi_at leaky_row leaky_len
    phi-read =
        ap (block_at (leaky_rows f delta recs)) (sym (add-zero (t * leaky_len f.n))) ∙ row_at 0 (omega arith)
        ∙ block-bytes_of (phi f delta recs t) _ (small-phi f delta recs sd hb t)

    pub key-hash-read : key_hash f (leaky_rows f delta recs) t ≡ others blocks f.i f.n (λ j. G ((x f recs t).key j))
    unfolding key_hash leaky_row leaky_len
    key-hash-read =
        row_at 16 (omega arith)
        ∙ block_at_lem (bytes_of (phi f delta recs t)) _ _ 16 (length-bytes_of (phi f delta recs t)) (small-hashes f.i f.n _)

    pub u-read : (j : ℕ) → j < f.n → f.i ≢ j → u_at f (leaky_rows f delta recs) j t ≡ u f delta recs j t
    unfolding u_at leaky_row leaky_len leaky_entry
    u-read j lj ne =
        let p : List ℕ = bytes_of (phi f delta recs t) in
        let k : List ℕ = bytes_of (others blocks f.i f.n (λ j. G ((x f recs t).key j))) in
        let r : List ℕ = rows f 18 (leaky_entry f delta recs t) in
        row_at (32 + j * 18) (omega arith)
        ∙ ap (block_at (p ++ (k ++ r))) (let e : 32 + j * 18 ≡ 16 + (16 + j * 18) = omega arith in e)
        ∙ sym (block-drop (p ++ (k ++ r)) 16 (16 + j * 18))
        ∙ ap (λ (s : List ℕ). block_at s (16 + j * 18)) (drop_at p (k ++ r) 16 (length-bytes_of (phi f delta recs t)))
        ∙ sym (block-drop (k ++ r) 16 (j * 18))
        ∙ ap (λ (s : List ℕ). block_at s (j * 18)) (drop_at k r 16 (length-bytes_of _))
        ∙ ap (block_at r) (sym (add-zero (j * 18))) ∙ sym (block-chunk 18 j r 0 (omega arith))
        ∙ ap (λ (s : List ℕ). block_at s 0)
        (chunk-rows f 18 (leaky_entry f delta recs t) (λ k l ne. length-leaky_entry f delta recs t k) j lj ne)
        ∙ block-bytes_of (u f delta recs j t) _ (small-u f delta recs sd hb t j)

-- ---- the rows of ZS
module _ (f : Frame) (masks recs : List ℕ) (m : ℕ → List ℕ) where
  pub length-z_rows : length (z_rows f masks recs m) ≡ leaky f.l * 17
  unfolding z_rows
  length-z_rows = length-cat (leaky f.l) 17 (z_row f masks recs m) (λ t l. length-z_row f masks recs m t)

  module _ (t : ℕ) (lt : t < leaky f.l) where
    pub z-read : z_at (z_rows f masks recs m) t ≡ z f masks recs m t
    unfolding z_at z_rows z_row
    z-read =
        ap (λ k. odd (get_or (z_rows f masks recs m) k 0)) (sym (add-zero (t * 17)))
        ∙ ap odd (row-byte 17 (leaky f.l) (z_row f masks recs m) (λ t l. length-z_row f masks recs m t) t 0 lt (omega arith))
        ∙ odd-num (z f masks recs m t)

    pub mac-hash-read : mac_hash (z_rows f masks recs m) t ≡ others blocks f.i f.n (λ j. G ((x f recs t).mac j))
    unfolding mac_hash z_rows z_row
    mac-hash-read =
        row_block 17 (leaky f.l) (z_row f masks recs m) (λ t l. length-z_row f masks recs m t) t 1 lt (omega arith)
        ∙ behind-byte (num (z f masks recs m t)) _ (small-hashes f.i f.n _)
