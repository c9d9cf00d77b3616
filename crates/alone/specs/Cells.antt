-- Rows read where they lie: rows of s bytes one after another; a row for each other party, of c cells of s elements each, as KEY_SUMS,
-- SHARE_COMMS, DMS and H_COMMS have them, where cell j of party k stands behind k · c + j cells; and what stands inside a row.
use Rattle.std.specs.Prelude.{◌≡◌, refl, ◌≢◌, length, get_or, drop}
use Rattle.std.proofs.Math.Path.{sym, ap}
use Rattle.std.proofs.Common.{◌∙◌, add-zero, add-mul, mul_assoc, le_refl, take-append-drop, take_all, take_at, drop_at, drop-drop, get_or-take, get_or-drop}
use mathlib.Core.List.{List, [], ◌∷◌, ◌++◌, append_assoc, append-nil}
use Prim.Native.Nat.{ℕ, ◌+◌, ◌*◌, ◌<◌, ◌≤◌}
use Rattle.std.proofs.Math.ListN.{take}
use Rattle.lists.specs.Over.{cat, length-cat, in-chunks}
use Rattle.lists.specs.Rows.{chunk, chunk-cat, get_d_chunk}
use Rattle.block.specs.declared.Block.{Block}
use Rattle.block.specs.Block.{block_at, bytes_of, le8, Small}
use Rattle.block.specs.Trip.{length-le8, block_at_lem, block-chunk}
use Rattle.encode.specs.Encode.{encode}
pub use Rattle.encode.specs.Coded.{encode-ext}
use Rattle.engine.specs.declared.Frame.{Frame}
use Rattle.engine.specs.Area.{get-get}
use Rattle.rounds.specs.Area.{rows}
use Rattle.alone.specs.Base.{length-rows, chunk-rows}

-- ---- what is read of rows of s bytes
module _ (s c : ℕ) (g : ℕ → List ℕ) (h : (t : ℕ) → t < c → length (g t) ≡ s) (t o : ℕ) (lt : t < c) where
  pub row-byte : o < s → get_or (cat c g) (t * s + o) 0 ≡ get_or (g t) o 0
  row-byte w = sym (get_d_chunk s t (cat c g) o 0 w) ∙ ap (λ (x : List ℕ). get_or x o 0) (chunk-cat s c g h t lt)

  pub row_block : o + 16 ≤ s → block_at (cat c g) (t * s + o) ≡ block_at (g t) o
  row_block w = sym (block-chunk s t (cat c g) o w) ∙ ap (λ (x : List ℕ). block_at x o) (chunk-cat s c g h t lt)

pub behind-byte : (b : ℕ) (x : Block) → Small x → block_at (b ∷ bytes_of x) 1 ≡ x
behind-byte b x s = ap (λ (y : List ℕ). block_at (b ∷ y) 1) (sym (append-nil (bytes_of x))) ∙ block_at_lem (b ∷ []) x [] 1 refl s

-- the first element of a part, where the part stands
pub head-part : (k a : ℕ) (x y : List ℕ) → 0 < k → take k (drop a x) ≡ y → get_or x a 0 ≡ get_or y 0 0
head-part k a x y h e =
    ap (λ b. get_or x b 0) (sym (add-zero a)) ∙ sym (get_or-drop a x 0 0) ∙ sym (get_or-take k (drop a x) 0 0 h)
    ∙ ap (λ (z : List ℕ). get_or z 0 0) e

-- what stands in a row behind p
pub part_in : (s p q r : List ℕ) (a m o k : ℕ) → take m (drop a s) ≡ p ++ (q ++ r) → length p ≡ o → length q ≡ k
    → take k (drop (a + o) s) ≡ q
part_in s p q r a m o k h lp lq =
    let rest : List ℕ = drop m (drop a s) in
    ap (take k)
    (sym (drop-drop o a s)
    ∙ ap (drop o) (sym (take-append-drop m (drop a s)) ∙ ap (λ (x : List ℕ). x ++ rest) h ∙ append_assoc p (q ++ r) rest)
    ∙ drop_at p ((q ++ r) ++ rest) o lp ∙ append_assoc q r rest)
    ∙ take_at q (r ++ rest) k lq

-- the items of a list of c items of s bytes, its count left out: a row of them
pub items-row : (c s : ℕ) (g : ℕ → List ℕ) → ((t : ℕ) → t < c → length (g t) ≡ s) → take (c * s) (drop 8 (encode c g)) ≡ cat c g
unfolding encode
items-row c s g h =
    ap (take (c * s)) (drop_at (le8 c) (cat c g) 8 (length-le8 c)) ∙ take_all (c * s) (cat c g) (rw (length-cat c s g h) (le_refl (c * s)))

-- ---- rows of cells
module _ (f : Frame) (c s : ℕ) (g : ℕ → ℕ → List ℕ)
    (h : (k j : ℕ) → k < f.n → f.i ≢ k → j < c → length (g k j) ≡ s) where
  row_len : (k : ℕ) → k < f.n → f.i ≢ k → length (cat c (g k)) ≡ c * s
  row_len k l ne = length-cat c s (g k) (λ j lj. h k j l ne lj)

  pub length-cells : length (rows f (c * s) (λ k. cat c (g k))) ≡ f.n * (c * s)
  length-cells = length-rows f (c * s) (λ k. cat c (g k)) row_len

  pub cell : (k j : ℕ) → k < f.n → f.i ≢ k → j < c → take s (drop ((k * c + j) * s) (rows f (c * s) (λ k. cat c (g k)))) ≡ g k j
  unfolding chunk
  cell k j l ne lj =
      let all : List ℕ = rows f (c * s) (λ k. cat c (g k)) in
      ap (λ a. take s (drop a all)) (add-mul (k * c) j s ∙ ap (λ a. a + j * s) (mul_assoc k c s))
      ∙ sym (get-get (k * (c * s)) (c * s) (j * s) s all (in-chunks j c s lj))
      ∙ ap (λ (x : List ℕ). take s (drop (j * s) x)) (chunk-rows f (c * s) (λ k. cat c (g k)) row_len k l ne)
      ∙ chunk-cat s c (g k) (λ j lj. h k j l ne lj) j lj
