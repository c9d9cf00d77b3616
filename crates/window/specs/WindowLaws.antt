-- A Block of the strings as it is drawn or lent, and a turn of `window`.
use Rattle.std.specs.Prelude.{◌≡◌, ◌≢◌, ℕ, ◌+◌, ◌*◌, ◌^◌, ◌<◌, ◌≤◌, length, set}
use Rattle.std.proofs.Math.Path.{sym, ap, ap₂}
use Rattle.std.proofs.Common.{subst, ◌∙◌, arith}
use mathlib.Core.List.{List, [], append-nil}
use Rattle.lists.specs.Over.{Written, in-chunks}
use Rattle.block.specs.declared.Block.{Block}
use Rattle.block.specs.Block.{Small, block_at, bytes_of}
use Rattle.block.specs.Trip.{block-bytes_of}
use Rattle.fips197.specs.Key.{key_expansion}
use Rattle.fips197.specs.Cipher.{cipher, aes128}
use Rattle.aes_key.specs.Words.{words_bytes}
use Rattle.rbits.specs.LoopLaws.{pair_of, pair_turn}
use Rattle.draw.specs.Strings.{drawn, strings}
use Rattle.draw.specs.Given.{Whole}
use Rattle.draw.specs.StringLaws.{strings-lent, counter-block, block-drawn}

-- ---- Block c of the strings
module _ (count c : ℕ) (r : List ℕ) (b : Block) where
  -- as the cipher makes it of the counter
  pub block_made : (w : List ℕ) → length r ≡ 16 → words_bytes 44 w ≡ key_expansion r
      → bytes_of b ≡ cipher (words_bytes 44 w) (bytes_of (record { 0 = c; 1 = 0 })) → Small b → c < 2 ^ 64 → c < count
      → b ≡ block_at (strings count r) (c * 16)
  unfolding drawn aes128
  block_made w h hw e k l v =
      let made : bytes_of b ≡ drawn r c = e ∙ ap₂ cipher hw (sym (counter-block c l)) in
      sym (block-drawn count c r h v ∙ ap (λ (x : List ℕ). block_at x 0) (sym made ∙ sym (append-nil (bytes_of b))) ∙ block-bytes_of b [] k)

  -- as it is lent
  pub block-lent : length r ≢ 16 → b ≡ block_at r (c * 16) → b ≡ block_at (strings count r) (c * 16)
  block-lent h e = e ∙ ap (λ (x : List ℕ). block_at x (c * 16)) (sym (strings-lent count r h))

-- ---- a window

-- Block q of string j is one of the strings' Blocks
pub block_within : (blocks q j : ℕ) → j < 120 → q < blocks → j * blocks + q < 120 * blocks
block_within blocks q j l h = omega (arith, in-chunks j 120 blocks l)

pub whole-within : (r : List ℕ) (blocks c : ℕ) → Whole (120 * blocks) r → c < 120 * blocks → Whole (c + 1) r
whole-within r blocks c w h = record { lent = λ n. omega (arith, w.lent n) }

module _ (r : List ℕ) (blocks q : ℕ) where
  -- Block q of string j
  abbrev pub of_string : ℕ → Block
  of_string j = block_at (strings (120 * blocks) r) (j * (16 * blocks) + q * 16)

  string-turn : (j : ℕ) (l d : List ℕ) (b : Block) → Written (pair_of of_string) j (j * 2) l d
      → b ≡ block_at (strings (120 * blocks) r) ((j * blocks + q) * 16) → j * 2 + 2 ≤ length l
      → Written (pair_of of_string) (j + 1) ((j + 1) * 2) l (set (set d (j * 2) b.0) (j * 2 + 1) b.1)
  string-turn j l d b w e h =
      let at : b ≡ of_string j =
      e ∙ ap (block_at (strings (120 * blocks) r)) (let k : (j * blocks + q) * 16 ≡ j * (16 * blocks) + q * 16 = omega arith in k) in
      pair_turn of_string j l d b.0 b.1 w (ap (λ (x : Block). x.0) at) (ap (λ (x : Block). x.1) at) h

  -- a turn of `window`: strings j and j + 1
  pub strings-turn : (j j' : ℕ) (l d : List ℕ) (a b : Block) → j' ≡ j + 2 → Written (pair_of of_string) j (j * 2) l d
      → a ≡ block_at (strings (120 * blocks) r) ((j * blocks + q) * 16)
      → b ≡ block_at (strings (120 * blocks) r) ((j * blocks + q + blocks) * 16) → j * 2 + 4 ≤ length l
      → Written (pair_of of_string) j' (j' * 2) l
      (set (set (set (set d (j * 2) a.0) (j * 2 + 1) a.1) (j * 2 + 2) b.0) (j * 2 + 3) b.1)
  strings-turn j j' l d a b more w ea eb h =
      let e : List ℕ = set (set d (j * 2) a.0) (j * 2 + 1) a.1 in
      let one : Written (pair_of of_string) (j + 1) ((j + 1) * 2) l e = string-turn j l d a w ea (omega arith) in
      let next : j * blocks + q + blocks ≡ (j + 1) * blocks + q = omega arith in
      let two = string-turn (j + 1) l e b one (eb ∙ ap (λ k. block_at (strings (120 * blocks) r) (k * 16)) next) (omega arith) in
      let low : (j + 1) * 2 ≡ j * 2 + 2 = omega arith in
      let high : (j + 1) * 2 + 1 ≡ j * 2 + 3 = omega arith in
      let more : j + 1 + 1 ≡ j' = omega arith in
      subst (λ (x : List ℕ). Written (pair_of of_string) j' (j' * 2) l x) (λ i. set (set e (low i) b.0) (high i) b.1)
      (subst (λ k. Written (pair_of of_string) k (k * 2) l (set (set e ((j + 1) * 2) b.0) ((j + 1) * 2 + 1) b.1)) more two)
