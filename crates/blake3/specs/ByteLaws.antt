-- The 32 bytes of a digest's words, as two Blocks; and the digest of a Block.
use Rattle.std.specs.Prelude.{◌≡◌, refl, Bool, true, false, ◌&&◌, List, [], ◌∷◌, ◌++◌, ℕ, ◌+◌, ◌*◌, ◌/◌, ◌%◌, ◌^◌, ◌≤◌, ◌<◌, length, get_or, take, drop, eqb}
use Rattle.std.proofs.Common.{sym, ap, ap₂, ◌∙◌, add-zero, mod-eq_of_lt, arith, shr-shr, shr_lt, take-append-drop, length-drop, take_all, take-add, drop-drop}
use Rattle.std.proofs.lemmas.Nat.{mod-pow-add}
use Rattle.lists.specs.Over.{length-tab, get_or-tab}
use Rattle.lists.specs.Bytes.{Bytes, bytes-tab}
use Rattle.lists.specs.Sect.{get}
use Rattle.lists.specs.Same.{same?, same_true, same_false}
use Rattle.algebra.specs.Group.{odd}
use Rattle.block.proofs.Laws.{test-odd}
use Rattle.block.specs.declared.Block.{Block}
use Rattle.block.specs.Block.{le_of, word_at, block_at, le8, bytes_of, eq_block}
use Rattle.block.specs.Group.{block-eq, block-ne}
use Rattle.block.specs.Trip.{Small, bytes_of-at, length-bytes_of, block-take, block-drop}
use Rattle.word.specs.Word.{word, byte_of}
use Rattle.blake3_core.specs.Compress.{compress, IV}
use Rattle.blake3_node.specs.Node.{block_words, after, chunk}
use Rattle.blake3.specs.Tree.{bytes, digest, hash}
use Rattle.blake3.specs.TreeLaws.{tree-chunk}

-- ---- bytes of words

pub length-bytes : (h : List ℕ) → length (bytes h) ≡ 32
unfolding bytes
length-bytes h = length-tab 32 (λ k. byte_of (k % 4) (get_or h (k / 4) 0))

pub length-hash : (s : List ℕ) → length (hash s) ≡ 32
unfolding hash
length-hash s = length-bytes (digest s)

byte : (x : ℕ) → x % 2 ^ 8 < 256
byte x = omega arith

pub bytes-bytes : (h : List ℕ) → Bytes (bytes h)
unfolding bytes
bytes-bytes h = bytes-tab 32 (λ k. byte_of (k % 4) (get_or h (k / 4) 0)) (λ i l. byte (get_or h (i / 4) 0 / 2 ^ (8 * (i % 4))))

pub byte_at : (h : List ℕ) (i : ℕ) → i < 32 → get_or (bytes h) i 0 ≡ byte_of (i % 4) (get_or h (i / 4) 0)
unfolding bytes
byte_at h i l = get_or-tab 32 i (λ k. byte_of (k % 4) (get_or h (k / 4) 0)) 0 l

-- digits from above, and from below
above : (b a q1 q2 a0 a1 a2 a3 : ℕ) → a3 * 256 + a2 ≡ q2 → q2 * 256 + a1 ≡ q1 → q1 * 256 + a0 ≡ a
    → (((b * 256 + a3) * 256 + a2) * 256 + a1) * 256 + a0 ≡ a + b * 2 ^ 32
above b a q1 q2 a0 a1 a2 a3 e2 e1 e0 = omega arith

below : (m16 m24 m32 x0 x1 x2 x3 : ℕ) → m32 ≡ x3 * 2 ^ 24 + m24 → m24 ≡ x2 * 2 ^ 16 + m16 → m16 ≡ x1 * 2 ^ 8 + x0
    → x0 + x1 * 2 ^ 8 + x2 * 2 ^ 16 + x3 * 2 ^ 24 ≡ m32
below m16 m24 m32 x0 x1 x2 x3 e2 e1 e0 = omega arith

-- eight bytes of two words
eight : (a b : ℕ) → a < 2 ^ 32 → b < 2 ^ 32
    → le_of (byte_of 0 a) (byte_of 1 a) (byte_of 2 a) (byte_of 3 a) (byte_of 0 b) (byte_of 1 b) (byte_of 2 b) (byte_of 3 b) ≡ a + b * 2 ^ 32
eight a b ha hb =
    let b2 : byte_of 3 b * 256 + byte_of 2 b ≡ b / 2 ^ 16 = omega arith in
    let b1 : b / 2 ^ 16 * 256 + byte_of 1 b ≡ b / 2 ^ 8 = omega arith in
    let b0 : b / 2 ^ 8 * 256 + byte_of 0 b ≡ b = omega arith in
    let a2 : byte_of 3 a * 256 + byte_of 2 a ≡ a / 2 ^ 16 = omega arith in
    let a1 : a / 2 ^ 16 * 256 + byte_of 1 a ≡ a / 2 ^ 8 = omega arith in
    let a0 : a / 2 ^ 8 * 256 + byte_of 0 a ≡ a = omega arith in
    rw (b2, b1, b0) (above b a (a / 2 ^ 8) (a / 2 ^ 16) (byte_of 0 a) (byte_of 1 a) (byte_of 2 a) (byte_of 3 a) a2 a1 a0)

-- byte j of word k
place : (h : List ℕ) (k j i : ℕ) → i ≡ 4 * k + j → j < 4 → k < 8 → get_or (bytes h) i 0 ≡ byte_of j (get_or h k 0)
place h k j i e lj lk =
    let m : i % 4 ≡ j = omega arith in
    let d : i / 4 ≡ k = omega arith in
    byte_at h i (omega arith) ∙ ap₂ (λ (x y : ℕ). byte_of x (get_or h y 0)) m d

-- words k and k + 1, as one of 64 bits
pub two-words : (h : List ℕ) (k : ℕ) → k < 7 → get_or h k 0 < 2 ^ 32 → get_or h (k + 1) 0 < 2 ^ 32
    → get_or h k 0 + get_or h (k + 1) 0 * 2 ^ 32 ≡ word_at (bytes h) (4 * k)
unfolding word_at
two-words h k l ha hb =
    let a = 4 * k in
    let p0 = place h k 0 a (omega arith) (omega arith) (omega arith) in
    let p1 = place h k 1 (a + 1) (omega arith) (omega arith) (omega arith) in
    let p2 = place h k 2 (a + 2) (omega arith) (omega arith) (omega arith) in
    let p3 = place h k 3 (a + 3) (omega arith) (omega arith) (omega arith) in
    let p4 = place h (k + 1) 0 (a + 4) (omega arith) (omega arith) (omega arith) in
    let p5 = place h (k + 1) 1 (a + 5) (omega arith) (omega arith) (omega arith) in
    let p6 = place h (k + 1) 2 (a + 6) (omega arith) (omega arith) (omega arith) in
    let p7 = place h (k + 1) 3 (a + 7) (omega arith) (omega arith) (omega arith) in
    sym ((λ i. le_of (p0 i) (p1 i) (p2 i) (p3 i) (p4 i) (p5 i) (p6 i) (p7 i)) ∙ eight (get_or h k 0) (get_or h (k + 1) 0) ha hb)

-- the lowest bit of byte 31
digit : (x : ℕ) → x % 2 ≡ x % 2 ^ 8 % 2
digit x = omega arith

pub last_bit : (h : List ℕ) → eqb (get_or h 7 0 / 2 ^ 24 % 2) 1 ≡ odd (get_or (bytes h) 31 0)
last_bit h =
    ap (λ (x : ℕ). eqb x 1) (digit (get_or h 7 0 / 2 ^ 24)) ∙ test-odd (byte_of 3 (get_or h 7 0)) ∙ ap odd (sym (byte_at h 31 (omega arith)))

-- ---- the 32 bytes in two halves

pub halves : (h : List ℕ) → bytes_of (block_at (bytes h) 0) ++ bytes_of (block_at (bytes h) 16) ≡ bytes h
halves h =
    let n = length-bytes h in
    ap₂ ◌++◌ (bytes_of-at (bytes h) (bytes-bytes h) 0 (omega arith))
    (bytes_of-at (bytes h) (bytes-bytes h) 16 (omega arith) ∙ take_all 16 (drop 16 (bytes h)) (omega (arith, length-drop 16 (bytes h))))
    ∙ take-append-drop 16 (bytes h)

-- a list of 32 bytes is the digest where both halves are
pub same-halves : (h s : List ℕ) (at : ℕ) → Bytes s → at + 32 ≤ length s
    → (eq_block (block_at (bytes h) 0) (block_at s at) && eq_block (block_at (bytes h) 16) (block_at s (at + 16))) ≡ same? (get at 32 s) (bytes h)
same-halves h s at b l = by (eq_block a0 b0) refl (eq_block a1 b1) refl (same? (get at 32 s) (bytes h)) refl
  where
    a0 : Block
    a0 = block_at (bytes h) 0

    a1 : Block
    a1 = block_at (bytes h) 16

    b0 : Block
    b0 = block_at s at

    b1 : Block
    b1 = block_at s (at + 16)

    lists : a0 ≡ b0 → a1 ≡ b1 → get at 32 s ≡ bytes h
    lists e0 e1 =
        take-add 16 16 (drop at s)
        ∙ ap₂ ◌++◌ (sym (bytes_of-at s b at (omega arith))) (ap (take 16) (drop-drop 16 at s) ∙ sym (bytes_of-at s b (at + 16) (omega arith)))
        ∙ ap₂ (λ (x y : Block). bytes_of x ++ bytes_of y) (sym e0) (sym e1)
        ∙ halves h

    first : get at 32 s ≡ bytes h → a0 ≡ b0
    first e =
        ap (λ (x : List ℕ). block_at x 0) (sym e) ∙ block-take (drop at s) 32 0 (omega arith) ∙ block-drop s at 0
        ∙ ap (block_at s) (add-zero at)

    second : get at 32 s ≡ bytes h → a1 ≡ b1
    second e = ap (λ (x : List ℕ). block_at x 16) (sym e) ∙ block-take (drop at s) 32 16 (omega arith) ∙ block-drop s at 16

    by : (x : Bool) → eq_block a0 b0 ≡ x → (y : Bool) → eq_block a1 b1 ≡ y → (z : Bool) → same? (get at 32 s) (bytes h) ≡ z → (x && y) ≡ z
    by true p true q true r = refl
    by true p true q false r = absurd (same_false (get at 32 s) (bytes h) r (lists (block-eq a0 b0 p) (block-eq a1 b1 q)))
    by true p false q true r = absurd (block-ne a1 b1 q (second (same_true (get at 32 s) (bytes h) r)))
    by true p false q false r = refl
    by false p y q true r = absurd (block-ne a0 b0 p (first (same_true (get at 32 s) (bytes h) r)))
    by false p y q false r = refl

-- ---- a Block

-- the low and the high half of a word of 64 bits, of its bytes
low_word : (w : ℕ) → word (w % 256) (w / 0x100 % 256) (w / 0x1_0000 % 256) (w / 0x100_0000 % 256) ≡ w % 2 ^ 32
unfolding word
low_word w =
    below (w % 2 ^ 16) (w % 2 ^ 24) (w % 2 ^ 32) (w % 2 ^ 8) (w / 2 ^ 8 % 2 ^ 8) (w / 2 ^ 16 % 2 ^ 8) (w / 2 ^ 24 % 2 ^ 8)
    (mod-pow-add w 8 24) (mod-pow-add w 8 16) (mod-pow-add w 8 8)

high_word : (w : ℕ) → w < 2 ^ 64
    → word (w / 0x1_0000_0000 % 256) (w / 0x100_0000_0000 % 256) (w / 0x1_0000_0000_0000 % 256) (w / 0x100_0000_0000_0000 % 256) ≡ w / 2 ^ 32
high_word w h =
    let v : ℕ = w / 2 ^ 32 in
    (λ i. word (v % 256) (sym (shr-shr w 32 8) i % 256) (sym (shr-shr w 32 16) i % 256) (sym (shr-shr w 32 24) i % 256))
    ∙ low_word v ∙ mod-eq_of_lt (shr_lt 32 32 h)

-- a Block's words, as a block of 64 bytes
abbrev pub words : Block → List ℕ
words b =
    b.0 % 2 ^ 32 ∷ b.0 / 2 ^ 32 ∷ b.1 % 2 ^ 32 ∷ b.1 / 2 ^ 32 ∷ 0 ∷ 0 ∷ 0 ∷ 0 ∷ 0 ∷ 0 ∷ 0 ∷ 0 ∷ 0 ∷ 0 ∷ 0 ∷ 0 ∷ []

block_words_lem : (b : Block) → Small b → block_words (bytes_of b) ≡ words b
unfolding bytes_of le8 word
block_words_lem b h i =
    low_word b.0 i ∷ high_word b.0 h.low i ∷ low_word b.1 i ∷ high_word b.1 h.high i
    ∷ 0 ∷ 0 ∷ 0 ∷ 0 ∷ 0 ∷ 0 ∷ 0 ∷ 0 ∷ 0 ∷ 0 ∷ 0 ∷ 0 ∷ []

-- one chunk of one block of 16 bytes
pub block-digest : (b : Block) → Small b → compress IV (words b) 0 16 11 ≡ digest (bytes_of b)
unfolding digest chunk after bytes_of le8
block-digest b h =
    sym (tree-chunk (bytes_of b) 0 8 (omega (arith, length-bytes_of b)) ∙ ap (λ (m : List ℕ). compress IV m 0 16 11) (block_words_lem b h))
