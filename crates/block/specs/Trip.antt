-- Bytes there and back: what is read where a word or a Block was written, and what is written of what was read.
use Rattle.std.specs.Prelude.{◌≡◌, refl, Bool, true, false, ℕ, zero, suc, ◌+◌, ◌*◌, ◌/◌, ◌%◌, ◌^◌, ◌<◌, ◌≤◌, length, take, drop}
use Rattle.std.proofs.Math.Path.{sym, ap, ap₂}
use Rattle.std.proofs.Common.{◌∙◌, add-zero, add_assoc, le_refl, length-append, get_or-take, get_or-drop, drop_at, take-add, drop-drop}
use mathlib.Core.List.{List, [], ◌∷◌, ◌++◌, append_assoc, append-nil}
use Rattle.std.proofs.Math.Nat.{mod-eq_of_lt}
use native.Mathlib.Omega.{arith}
use Rattle.std.proofs.Math.ListN.{get_or}
use Rattle.std.proofs.lemmas.Nat.{xor_lt}
use Rattle.std.specs.Int.{w64, to_le_bytes, from_le_bytes}
use Rattle.lists.specs.Over.{tab}
use Rattle.lists.specs.Tab.{take-tab}
use Rattle.lists.specs.Sect.{get}
use Rattle.lists.specs.Rows.{chunk}
use Rattle.lists.specs.Bytes.{Bytes, bytes-append}
use Rattle.algebra.specs.Group.{sel}
use Rattle.algebra.specs.Sum.{sum, others, neq}
use Rattle.block.specs.Block.{Block, le_of, word_at, block_at, le8, bytes_of, xor_of, zero_of}
use Rattle.block.specs.Group.{blocks}
pub use Rattle.block.specs.Block.{Small}

-- ---- a word or a Block depends on its own bytes alone
pub word-ext : (s t : List ℕ) (a b : ℕ) → ((j : ℕ) → j < 8 → get_or s (a + j) 0 ≡ get_or t (b + j) 0) → word_at s a ≡ word_at t b
unfolding word_at
word-ext s t a b h =
    let e0 : get_or s a 0 ≡ get_or t b 0 = ap (λ k. get_or s k 0) (sym (add-zero a)) ∙ h 0 (omega arith) ∙ ap (λ k. get_or t k 0) (add-zero b) in
    λ i. le_of (e0 i) (h 1 (omega arith) i) (h 2 (omega arith) i) (h 3 (omega arith) i) (h 4 (omega arith) i) (h 5 (omega arith) i) (h 6 (omega arith) i) (h 7 (omega arith) i)

pub block-ext : (s t : List ℕ) (a b : ℕ) → ((j : ℕ) → j < 16 → get_or s (a + j) 0 ≡ get_or t (b + j) 0) → block_at s a ≡ block_at t b
unfolding block_at
block-ext s t a b h =
    let e0 : word_at s a ≡ word_at t b = word-ext s t a b (λ j l. h j (omega arith)) in
    let e1 : word_at s (a + 8) ≡ word_at t (b + 8) =
    word-ext s t (a + 8) (b + 8) (λ j l. ap (λ k. get_or s k 0) (add_assoc a 8 j) ∙ h (8 + j) (omega arith) ∙ ap (λ k. get_or t k 0) (sym (add_assoc b 8 j))) in
    λ i. record { 0 = e0 i; 1 = e1 i }

-- bytes that are no more than those of a zero are zero
pub word_below : (s t : List ℕ) (a b : ℕ) → ((j : ℕ) → j < 8 → get_or s (a + j) 0 ≤ get_or t (b + j) 0) → word_at t b ≡ 0 → word_at s a ≡ 0
unfolding word_at
word_below s t a b h z =
    let h0 : get_or s a 0 ≤ get_or t b 0 = rw (sym (add-zero a), sym (add-zero b)) (h 0 (omega arith)) in
    omega (
      arith,
      h 1 (omega arith),
      h 2 (omega arith),
      h 3 (omega arith),
      h 4 (omega arith),
      h 5 (omega arith),
      h 6 (omega arith),
      h 7 (omega arith),
    )

pub block-below : (s t : List ℕ) (a b : ℕ) → ((j : ℕ) → j < 16 → get_or s (a + j) 0 ≤ get_or t (b + j) 0) → block_at t b ≡ blocks.nil
    → block_at s a ≡ blocks.nil
unfolding block_at blocks zero_of
block-below s t a b h z =
    let e0 : word_at s a ≡ 0 = word_below s t a b (λ j l. h j (omega arith)) (ap (λ (x : Block). x.0) z) in
    let e1 : word_at s (a + 8) ≡ 0 =
    word_below s t (a + 8) (b + 8) (λ j l. rw (add_assoc a 8 j, add_assoc b 8 j) (h (8 + j) (omega arith))) (ap (λ (x : Block). x.1) z) in
    λ i. record { 0 = e0 i; 1 = e1 i }

module _ (s : List ℕ) (a at : ℕ) where
  at_drop : (j : ℕ) → get_or (drop a s) (at + j) 0 ≡ get_or s (a + at + j) 0
  at_drop j = get_or-drop a s (at + j) 0 ∙ ap (λ k. get_or s k 0) (sym (add_assoc a at j))

  pub word-drop : word_at (drop a s) at ≡ word_at s (a + at)
  word-drop = word-ext (drop a s) s at (a + at) (λ j l. at_drop j)

  pub block-drop : block_at (drop a s) at ≡ block_at s (a + at)
  block-drop = block-ext (drop a s) s at (a + at) (λ j l. at_drop j)

module _ (s : List ℕ) (k at : ℕ) where
  pub word-take : at + 8 ≤ k → word_at (take k s) at ≡ word_at s at
  word-take h = word-ext (take k s) s at at (λ j l. get_or-take k s (at + j) 0 (omega arith))

  pub block-take : at + 16 ≤ k → block_at (take k s) at ≡ block_at s at
  block-take h = block-ext (take k s) s at at (λ j l. get_or-take k s (at + j) 0 (omega arith))

-- read from a part that was cut out, or from a row
pub word-get : (s : List ℕ) (a k at : ℕ) → at + 8 ≤ k → word_at (get a k s) at ≡ word_at s (a + at)
word-get s a k at h = word-take (drop a s) k at h ∙ word-drop s a at

pub block-get : (s : List ℕ) (a k at : ℕ) → at + 16 ≤ k → block_at (get a k s) at ≡ block_at s (a + at)
block-get s a k at h = block-take (drop a s) k at h ∙ block-drop s a at

pub block-chunk : (m k : ℕ) (s : List ℕ) (at : ℕ) → at + 16 ≤ m → block_at (chunk m k s) at ≡ block_at s (k * m + at)
unfolding chunk
block-chunk m k s at h = block-get s (k * m) m at h

pub word-part : (s : List ℕ) (at : ℕ) → word_at (take 8 (drop at s)) 0 ≡ word_at s at
word-part s at = word-get s at 8 0 (omega arith) ∙ ap (word_at s) (add-zero at)

pub block-part : (s : List ℕ) (at : ℕ) → block_at (take 16 (drop at s)) 0 ≡ block_at s at
block-part s at = block-get s at 16 0 (omega arith) ∙ ap (block_at s) (add-zero at)

-- ---- std's words: the methods of `u64` with these names
pub word-std : (x s : List ℕ) (at : ℕ) → x ≡ take 8 (drop at s) → from_le_bytes w64 x ≡ word_at s at
unfolding word_at
word-std x s at e =
    let f : (j : ℕ) → j < 8 → get_or x j 0 ≡ get_or s (at + j) 0 =
    λ j l. ap (λ (y : List ℕ). get_or y j 0) e ∙ get_or-take 8 (drop at s) j 0 l ∙ get_or-drop at s j 0 in
    let f0 : get_or x 0 0 ≡ get_or s at 0 = f 0 (omega arith) ∙ ap (λ k. get_or s k 0) (add-zero at) in
    omega (
      arith,
      f 1 (omega arith),
      f 2 (omega arith),
      f 3 (omega arith),
      f 4 (omega arith),
      f 5 (omega arith),
      f 6 (omega arith),
      f 7 (omega arith),
    )

pub le8-std : (w : ℕ) → to_le_bytes w64 w ≡ le8 w
unfolding le8
le8-std w = refl

-- ---- lengths and bytes of what is written
pub length-le8 : (w : ℕ) → length (le8 w) ≡ 8
unfolding le8
length-le8 w = refl

pub length-bytes_of : (b : Block) → length (bytes_of b) ≡ 16
unfolding bytes_of
length-bytes_of b = length-append (le8 b.0) (le8 b.1) ∙ ap₂ ◌+◌ (length-le8 b.0) (length-le8 b.1)

byte : (x : ℕ) → x % 256 < 256
byte x = omega arith

pub bytes-le8 : (w : ℕ) → Bytes (le8 w)
unfolding le8
bytes-le8 w zero = byte w
bytes-le8 w (suc zero) = byte (w / 0x100)
bytes-le8 w (suc (suc zero)) = byte (w / 0x1_0000)
bytes-le8 w (suc (suc (suc zero))) = byte (w / 0x100_0000)
bytes-le8 w (suc (suc (suc (suc zero)))) = byte (w / 0x1_0000_0000)
bytes-le8 w (suc (suc (suc (suc (suc zero))))) = byte (w / 0x100_0000_0000)
bytes-le8 w (suc (suc (suc (suc (suc (suc zero)))))) = byte (w / 0x1_0000_0000_0000)
bytes-le8 w (suc (suc (suc (suc (suc (suc (suc zero))))))) = byte (w / 0x100_0000_0000_0000)
bytes-le8 w (suc (suc (suc (suc (suc (suc (suc (suc i)))))))) = omega arith

pub bytes-bytes_of : (b : Block) → Bytes (bytes_of b)
unfolding bytes_of
bytes-bytes_of b = bytes-append (le8 b.0) (le8 b.1) (bytes-le8 b.0) (bytes-le8 b.1)

-- ---- written, then read
pub word-le8 : (w : ℕ) (rest : List ℕ) → w < 2 ^ 64 → word_at (le8 w ++ rest) 0 ≡ w
unfolding word_at le8
word-le8 w rest h =
    let s6 : w / 0x100_0000_0000_0000 % 256 * 256 + w / 0x1_0000_0000_0000 % 256 ≡ w / 0x1_0000_0000_0000 = omega arith in
    let s5 : w / 0x1_0000_0000_0000 * 256 + w / 0x100_0000_0000 % 256 ≡ w / 0x100_0000_0000 = omega arith in
    let s4 : w / 0x100_0000_0000 * 256 + w / 0x1_0000_0000 % 256 ≡ w / 0x1_0000_0000 = omega arith in
    let s3 : w / 0x1_0000_0000 * 256 + w / 0x100_0000 % 256 ≡ w / 0x100_0000 = omega arith in
    let s2 : w / 0x100_0000 * 256 + w / 0x1_0000 % 256 ≡ w / 0x1_0000 = omega arith in
    let s1 : w / 0x1_0000 * 256 + w / 0x100 % 256 ≡ w / 0x100 = omega arith in
    let s0 : w / 256 * 256 + w % 256 ≡ w = omega arith in
    rw (s6, s5, s4, s3, s2, s1, s0)

pub block-bytes_of : (b : Block) (rest : List ℕ) → Small b → block_at (bytes_of b ++ rest) 0 ≡ b
unfolding block_at bytes_of
block-bytes_of b rest h =
    let e0 : word_at ((le8 b.0 ++ le8 b.1) ++ rest) 0 ≡ b.0 =
    ap (λ (s : List ℕ). word_at s 0) (append_assoc (le8 b.0) (le8 b.1) rest) ∙ word-le8 b.0 (le8 b.1 ++ rest) h.low in
    let e1 : word_at ((le8 b.0 ++ le8 b.1) ++ rest) 8 ≡ b.1 =
    ap (λ (s : List ℕ). word_at s 8) (append_assoc (le8 b.0) (le8 b.1) rest)
    ∙ sym (word-drop (le8 b.0 ++ (le8 b.1 ++ rest)) 8 0)
    ∙ ap (λ (s : List ℕ). word_at s 0) (drop_at (le8 b.0) (le8 b.1 ++ rest) 8 (length-le8 b.0))
    ∙ word-le8 b.1 rest h.high in
    λ i. record { 0 = e0 i; 1 = e1 i }

-- at an offset where b's bytes stand
pub block_at_lem : (p : List ℕ) (b : Block) (rest : List ℕ) (at : ℕ) → length p ≡ at → Small b → block_at (p ++ (bytes_of b ++ rest)) at ≡ b
block_at_lem p b rest at h k =
    ap (block_at (p ++ (bytes_of b ++ rest))) (sym (add-zero at)) ∙ sym (block-drop (p ++ (bytes_of b ++ rest)) at 0)
    ∙ ap (λ (s : List ℕ). block_at s 0) (drop_at p (bytes_of b ++ rest) at h) ∙ block-bytes_of b rest k

pub block_here : (s : List ℕ) (at : ℕ) (b : Block) → take 16 (drop at s) ≡ bytes_of b → Small b → block_at s at ≡ b
block_here s at b e k =
    sym (block-part s at) ∙ ap (λ (x : List ℕ). block_at x 0) (e ∙ sym (append-nil (bytes_of b))) ∙ block-bytes_of b [] k

pub word-here : (s : List ℕ) (at w : ℕ) → take 8 (drop at s) ≡ le8 w → w < 2 ^ 64 → word_at s at ≡ w
word-here s at w e k =
    sym (word-part s at) ∙ ap (λ (x : List ℕ). word_at x 0) (e ∙ sym (append-nil (le8 w))) ∙ word-le8 w [] k

-- ---- read, then written
digit : (h b : ℕ) → b < 256 → (h * 256 + b) % 256 ≡ b
digit h b l = omega arith

module _ (b0 b1 b2 b3 b4 b5 b6 b7 : ℕ) (h0 : b0 < 256) (h1 : b1 < 256) (h2 : b2 < 256) (h3 : b3 < 256) (h4 : b4 < 256) (h5 : b5 < 256) (h6 : b6 < 256) (h7 : b7 < 256) where
  abbrev w : ℕ
  w = le_of b0 b1 b2 b3 b4 b5 b6 b7

  small-le_of : w < 2 ^ 64
  small-le_of = omega arith

  le8-le_of : le8 w ≡ b0 ∷ b1 ∷ b2 ∷ b3 ∷ b4 ∷ b5 ∷ b6 ∷ b7 ∷ []
  unfolding le8
  le8-le_of =
      let e0 : w % 256 ≡ b0 = digit ((((((b7 * 256 + b6) * 256 + b5) * 256 + b4) * 256 + b3) * 256 + b2) * 256 + b1) b0 h0 in
      let e1 : w / 0x100 % 256 ≡ b1 =
      ap (λ x. x % 256)
      (let q : w / 0x100 ≡ (((((b7 * 256 + b6) * 256 + b5) * 256 + b4) * 256 + b3) * 256 + b2) * 256 + b1 = omega arith in q)
      ∙ digit (((((b7 * 256 + b6) * 256 + b5) * 256 + b4) * 256 + b3) * 256 + b2) b1 h1 in
      let e2 : w / 0x1_0000 % 256 ≡ b2 =
      ap (λ x. x % 256) (let q : w / 0x1_0000 ≡ ((((b7 * 256 + b6) * 256 + b5) * 256 + b4) * 256 + b3) * 256 + b2 = omega arith in q)
      ∙ digit ((((b7 * 256 + b6) * 256 + b5) * 256 + b4) * 256 + b3) b2 h2 in
      let e3 : w / 0x100_0000 % 256 ≡ b3 =
      ap (λ x. x % 256) (let q : w / 0x100_0000 ≡ (((b7 * 256 + b6) * 256 + b5) * 256 + b4) * 256 + b3 = omega arith in q)
      ∙ digit (((b7 * 256 + b6) * 256 + b5) * 256 + b4) b3 h3 in
      let e4 : w / 0x1_0000_0000 % 256 ≡ b4 =
      ap (λ x. x % 256) (let q : w / 0x1_0000_0000 ≡ ((b7 * 256 + b6) * 256 + b5) * 256 + b4 = omega arith in q)
      ∙ digit ((b7 * 256 + b6) * 256 + b5) b4 h4 in
      let e5 : w / 0x100_0000_0000 % 256 ≡ b5 =
      ap (λ x. x % 256) (let q : w / 0x100_0000_0000 ≡ (b7 * 256 + b6) * 256 + b5 = omega arith in q) ∙ digit (b7 * 256 + b6) b5 h5 in
      let e6 : w / 0x1_0000_0000_0000 % 256 ≡ b6 =
      ap (λ x. x % 256) (let q : w / 0x1_0000_0000_0000 ≡ b7 * 256 + b6 = omega arith in q) ∙ digit (b7) b6 h6 in
      let e7 : w / 0x100_0000_0000_0000 % 256 ≡ b7 =
      ap (λ x. x % 256) (let q : w / 0x100_0000_0000_0000 ≡ b7 = omega arith in q) ∙ mod-eq_of_lt h7 in
      λ i. e0 i ∷ e1 i ∷ e2 i ∷ e3 i ∷ e4 i ∷ e5 i ∷ e6 i ∷ e7 i ∷ []

module _ (s : List ℕ) (h : Bytes s) where
  pub small_word : (at : ℕ) → word_at s at < 2 ^ 64
  unfolding word_at
  small_word at =
      small-le_of _ _ _ _ _ _ _ _ (h at) (h (at + 1)) (h (at + 2)) (h (at + 3)) (h (at + 4)) (h (at + 5)) (h (at + 6)) (h (at + 7))

  pub le8-word : (at : ℕ) → at + 8 ≤ length s → le8 (word_at s at) ≡ take 8 (drop at s)
  unfolding word_at tab
  le8-word at k =
      le8-le_of _ _ _ _ _ _ _ _ (h at) (h (at + 1)) (h (at + 2)) (h (at + 3)) (h (at + 4)) (h (at + 5)) (h (at + 6)) (h (at + 7))
      ∙ ap (λ n. get_or s n 0 ∷ get_or s (at + 1) 0 ∷ get_or s (at + 2) 0 ∷ get_or s (at + 3) 0 ∷ get_or s (at + 4) 0 ∷ get_or s (at + 5) 0 ∷ get_or s (at + 6) 0 ∷ get_or s (at + 7) 0 ∷ []) (sym (add-zero at))
      ∙ sym (take-tab 8 at s 0 k)

  pub small_at : (at : ℕ) → Small (block_at s at)
  unfolding block_at
  small_at at = record { low = small_word at; high = small_word (at + 8) }

  pub bytes_of-at : (at : ℕ) → at + 16 ≤ length s → bytes_of (block_at s at) ≡ take 16 (drop at s)
  unfolding block_at bytes_of
  bytes_of-at at k =
      ap₂ ◌++◌ (le8-word at (omega arith)) (le8-word (at + 8) (omega arith) ∙ ap (take 8) (sym (drop-drop 8 at s)))
      ∙ sym (take-add 8 8 (drop at s))

-- ---- Small is kept by sums
pub small-nil : Small blocks.nil
unfolding blocks zero_of
small-nil = record { low = omega arith; high = omega arith }

pub small-xor : (a b : Block) → Small a → Small b → Small (blocks.op a b)
unfolding blocks xor_of
small-xor a b h k = record { low = xor_lt 64 a.0 b.0 h.low k.low; high = xor_lt 64 a.1 b.1 h.high k.high }

pub small-sel : (x : Bool) (a : Block) → Small a → Small (sel blocks x a)
small-sel false a h = small-nil
small-sel true a h = h

pub small-sum : (n : ℕ) (f : ℕ → Block) → ((i : ℕ) → i < n → Small (f i)) → Small (sum blocks n f)
unfolding sum
small-sum zero f h = small-nil
small-sum (suc n) f h = small-xor (sum blocks n f) (f n) (small-sum n f (λ i l. h i (omega arith))) (h n (le_refl (suc n)))

pub small-others : (i n : ℕ) (f : ℕ → Block) → ((j : ℕ) → j < n → Small (f j)) → Small (others blocks i n f)
unfolding others
small-others i n f h = small-sum n (λ j. sel blocks (neq i j) (f j)) (λ j l. small-sel (neq i j) (f j) (h j l))
