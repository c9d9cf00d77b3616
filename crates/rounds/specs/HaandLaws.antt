-- What the rows of LEAKY hold, read back.
use Rattle.std.specs.Prelude.{◌≡◌, ◌≢◌}
use Rattle.std.proofs.Math.Path.{sym, ap, ap₂}
use Rattle.std.proofs.Common.{◌∙◌, get_or-append-add}
use mathlib.Core.List.{List, ◌++◌}
use Prim.Native.Nat.{ℕ, suc, ◌+◌, ◌*◌, ◌<◌}
use native.Mathlib.Omega.{arith}
use Rattle.std.proofs.Math.ListN.{length, get_or, length-append}
use Rattle.lists.specs.Over.{cat, in-chunks}
use Rattle.lists.specs.Rows.{chunk-cat, get_d_chunk}
use Rattle.algebra.specs.Group.{num}
use Rattle.algebra.specs.Sum.{others}
use Rattle.block.specs.declared.Block.{Block}
use Rattle.block.specs.Block.{bytes_of}
use Rattle.block.specs.Group.{blocks}
use Rattle.block.specs.Trip.{length-bytes_of}
use Rattle.plan.specs.Plan.{leaky}
use Rattle.engine.specs.declared.Frame.{Frame}
use Rattle.rounds.specs.Area.{leaky_len, rows}
use Rattle.rounds.specs.Loops.{row_of, rows_of, length-row_of, row_other, length-rows}
use Rattle.rounds.specs.Haand.{x, H, G, phi, u, leaky_entry, leaky_row, leaky_rows, z_row}

-- behind n bytes
get_or-behind : (a b : List ℕ) (n q p : ℕ) → length a ≡ n → p ≡ n + q → get_or (a ++ b) p 0 ≡ get_or b q 0
get_or-behind a b n q p h e = ap (λ i. get_or (a ++ b) i 0) (let w : p ≡ length a + q = omega arith in w) ∙ get_or-append-add a b q 0

module _ (f : Frame) (delta : Block) (recs : List ℕ) where
  pub length-leaky_entry : (t j : ℕ) → length (leaky_entry f delta recs t j) ≡ 18
  unfolding leaky_entry
  length-leaky_entry t j = length-append (bytes_of (u f delta recs j t)) _ ∙ ap (λ m. m + 2) (length-bytes_of (u f delta recs j t))

  abbrev front : ℕ → List ℕ
  front t = bytes_of (phi f delta recs t)

  abbrev sums : ℕ → List ℕ
  sums t = bytes_of (others blocks f.i f.n (λ j. G ((x f recs t).key j)))

  pub length-leaky_row : (t : ℕ) → length (leaky_row f delta recs t) ≡ leaky_len f.n
  unfolding leaky_row leaky_len
  length-leaky_row t =
      let r : List ℕ = rows f 18 (leaky_entry f delta recs t) in
      let n : length r ≡ f.n * 18 = length-rows f 18 (leaky_entry f delta recs t) (λ k l. length-leaky_entry t k) in
      length-append (front t) (sums t ++ r) ∙ ap₂ ◌+◌ (length-bytes_of _) (length-append (sums t) r ∙ ap₂ ◌+◌ (length-bytes_of _) n)
      ∙ (omega arith)

  -- byte q of row t
  pub row-byte : (t q : ℕ) → t < leaky f.l → q < leaky_len f.n
      → get_or (leaky_rows f delta recs) (t * leaky_len f.n + q) 0 ≡ get_or (leaky_row f delta recs t) q 0
  unfolding leaky_rows
  row-byte t q lt lq =
      sym (get_d_chunk (leaky_len f.n) t (leaky_rows f delta recs) q 0 lq)
      ∙ ap (λ (s : List ℕ). get_or s q 0) (chunk-cat (leaky_len f.n) (leaky f.l) (leaky_row f delta recs) (λ j l. length-leaky_row j) t lt)

  -- byte q of party j's entry in it
  pub entry-byte : (t j q p : ℕ) → t < leaky f.l → j < f.n → f.i ≢ j → q < 18 → p ≡ t * leaky_len f.n + (32 + j * 18) + q
      → get_or (leaky_rows f delta recs) p 0 ≡ get_or (leaky_entry f delta recs t j) q 0
  unfolding leaky_row leaky_len
  entry-byte t j q p lt lj ne lq e =
      let g : ℕ → List ℕ = leaky_entry f delta recs t in
      ap (λ i. get_or (leaky_rows f delta recs) i 0) (let w : p ≡ t * leaky_len f.n + (32 + j * 18 + q) = omega arith in w)
      ∙ row-byte t (32 + j * 18 + q) lt (omega (arith, in-chunks j f.n 18 lj))
      ∙ get_or-behind (front t) (sums t ++ rows f 18 g) 16 (16 + j * 18 + q) (32 + j * 18 + q) (length-bytes_of _) (omega arith)
      ∙ get_or-behind (sums t) (rows f 18 g) 16 (j * 18 + q) (16 + j * 18 + q) (length-bytes_of _) (omega arith)
      ∙ ap (λ (s : List ℕ). get_or s (j * 18 + q) 0) (sym (rows_of f 18 g))
      ∙ sym (get_d_chunk 18 j (cat f.n (row_of f.i 18 g)) q 0 lq)
      ∙ ap (λ (s : List ℕ). get_or s q 0)
      (chunk-cat 18 f.n (row_of f.i 18 g) (λ k l. length-row_of f.i 18 g k (λ ne. length-leaky_entry t k)) j lj ∙ row_other f.i 18 g j ne)

  -- the two bits H
  module _ (t j p : ℕ) (lt : t < leaky f.l) (lj : j < f.n) (ne : f.i ≢ j) where
    pub first_byte : p ≡ t * leaky_len f.n + (32 + j * 18) + 16 → get_or (leaky_rows f delta recs) p 0 ≡ num (H ((x f recs t).key j))
    unfolding leaky_entry
    first_byte e =
        entry-byte t j 16 p lt lj ne (omega arith) e ∙ get_or-behind (bytes_of (u f delta recs j t)) _ 16 0 16 (length-bytes_of _) (omega arith)

    pub second-byte : p ≡ t * leaky_len f.n + (32 + j * 18) + 17
        → get_or (leaky_rows f delta recs) p 0 ≡ num (H (blocks.op ((x f recs t).key j) delta))
    unfolding leaky_entry
    second-byte e =
        entry-byte t j 17 p lt lj ne (omega arith) e ∙ get_or-behind (bytes_of (u f delta recs j t)) _ 16 1 17 (length-bytes_of _) (omega arith)

-- ---- the rows of ZS
pub length-z_row : (f : Frame) (masks recs : List ℕ) (m : ℕ → List ℕ) (t : ℕ) → length (z_row f masks recs m t) ≡ 17
unfolding z_row
length-z_row f masks recs m t = ap suc (length-bytes_of (others blocks f.i f.n (λ j. G ((x f recs t).mac j))))
