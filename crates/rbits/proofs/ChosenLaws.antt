-- 64 records at a time: what a word of a string chooses of them, and all groups together.
use Rattle.std.specs.Prelude.{◌≡◌, List, ℕ, zero, suc, ◌+◌, ◌*◌, ◌/◌, ◌%◌, ◌^◌, ◌<◌, ◌≤◌, length, get_or}
use Rattle.std.proofs.Math.Path.{refl, sym, ap}
use Rattle.std.proofs.Common.{ap₂, ◌∙◌, add-zero, arith, lt-ltb, le-ltb}
use Rattle.lists.specs.Over.{in-record}
use Rattle.lists.specs.Bytes.{Bytes}
use Rattle.algebra.specs.Group.{sel, odd, sel-nil}
use Rattle.algebra.specs.Sum.{sum, sum-ext, sum-turn}
use Rattle.block.specs.declared.Block.{Block}
use Rattle.block.specs.Block.{word_at, block_at}
use Rattle.block.specs.Group.{blocks}
use Rattle.rbits.specs.Chosen.{chosen, block_sum}
use Rattle.rbits.specs.Tables.{record_block, tables, lookup, r_word, window_of, half_at}
use Rattle.rbits.specs.WordLaws.{words_at_lem}
use Rattle.rbits.specs.SumLaws.{sum-groups, sum_past}
use Rattle.rbits.specs.DigitLaws.{word-digit}
use Rattle.rbits.specs.TableLaws.{lookup-tables}

-- ---- a half of a window has a word of each string
pub half-window : (r : List ℕ) (row q h j : ℕ) → h < 2 → j < 120 → half_at (window_of r row q) h j ≡ r_word r row (q * 2 + h) j
unfolding window_of block_at
half-window r row q zero j u l =
    ap (λ n. get_or (window_of r row q) n 0) (add-zero (j * 2))
    ∙ ap (λ (b : Block). b.0) (words_at_lem 120 (λ j. block_at r (j * row + q * 16)) j l)
    ∙ ap (word_at r) (let e : j * row + q * 16 ≡ j * row + (q * 2 + 0) * 8 = omega arith in e)
half-window r row q (suc zero) j u l =
    ap (λ (b : Block). b.1) (words_at_lem 120 (λ j. block_at r (j * row + q * 16)) j l)
    ∙ ap (word_at r) (let e : j * row + q * 16 + 8 ≡ j * row + (q * 2 + 1) * 8 = omega arith in e)
half-window r row q (suc (suc h)) j u l = absurd (omega arith)

-- group g of 64 records has a half of window g div 2
pub half-group : (r : List ℕ) (row g j : ℕ) → j < 120 → half_at (window_of r row (g / 2)) (g % 2) j ≡ r_word r row g j
half-group r row g j l =
    half-window r row (g / 2) (g % 2) j (omega arith) l
    ∙ ap (λ n. r_word r row n j) (let e : g / 2 * 2 + g % 2 ≡ g = omega arith in e)

-- ---- digit e of word g of string j says whether it chooses element 64g + e
pub chosen-digit : (r : List ℕ) (row j g e : ℕ) → Bytes r → j * row + g * 8 + 8 ≤ length r → e < 64
    → odd (r_word r row g j / 2 ^ e) ≡ chosen r row j (g * 64 + e)
unfolding chosen
chosen-digit r row j g e hr h l =
    let t : ℕ = g * 64 + e in
    let q : j * row + g * 8 + e / 8 ≡ j * row + (16 * (t / 128) + t % 128 / 8) = omega arith in
    let d : e % 8 ≡ t % 8 = omega arith in
    word-digit r (j * row + g * 8) e hr h l ∙ ap₂ (λ i k. odd (get_or r i 0 / 2 ^ k)) q d

-- ---- a group of 64 records
module _ (s : List ℕ) (stride at : ℕ) (r : List ℕ) (row count : ℕ) where
  abbrev pub term : ℕ → ℕ → Block
  term j t = sel blocks (chosen r row j t) (record_block s stride at count t)

  -- the first g groups
  unfoldable pub groups : ℕ → ℕ → Block
  groups g j = sum blocks g (λ h. sum blocks 64 (λ e. term j (h * 64 + e)))

  block_in : (t : ℕ) → t < count → record_block s stride at count t ≡ block_at s (t * stride + at)
  unfolding record_block
  block_in t h = rw (lt-ltb t count h)

  block_out : (t : ℕ) → count ≤ t → record_block s stride at count t ≡ blocks.nil
  unfolding record_block
  block_out t h = rw (le-ltb t count h)

  pub groups-all : (g j : ℕ) → count ≤ g * 64 → groups g j ≡ block_sum s stride at r row count j
  unfolding groups block_sum
  groups-all g j h =
      sum-groups blocks g 64 (term j)
      ∙ sum_past blocks count (g * 64) (term j) h
      (λ t l. ap (sel blocks (chosen r row j t)) (block_out t l) ∙ sel-nil blocks (chosen r row j t))
      ∙ sum-ext blocks count (term j) _ (λ t l. ap (sel blocks (chosen r row j t)) (block_in t l))

  -- the tables of group g, and what word g of string j chooses in them
  abbrev pub group_tables : ℕ → List ℕ
  group_tables g = tables (λ e. record_block s stride at count (g * 64 + e))

  chosen-group : (g j : ℕ) → Bytes r → j * row + g * 8 + 8 ≤ length r
      → lookup (group_tables g) (r_word r row g j) ≡ sum blocks 64 (λ e. term j (g * 64 + e))
  chosen-group g j hr h =
      lookup-tables (λ e. record_block s stride at count (g * 64 + e)) (r_word r row g j)
      ∙ sum-ext blocks 64 _ (λ e. term j (g * 64 + e))
      (λ e l. ap (λ b. sel blocks b (record_block s stride at count (g * 64 + e))) (chosen-digit r row j g e hr h l))

  -- one group more
  pub groups-more : (g j : ℕ) → Bytes r → 120 * row ≤ length r → g * 8 + 8 ≤ row → j < 120
      → blocks.op (groups g j) (lookup (group_tables g) (r_word r row g j)) ≡ groups (g + 1) j
  unfolding groups
  groups-more g j hr hl hg l =
      ap (blocks.op (groups g j)) (chosen-group g j hr (in-record j 120 row (g * 8) 8 (length r) l hg hl))
      ∙ sym (sum-turn blocks g (λ h. sum blocks 64 (λ e. term j (h * 64 + e))))

  pub groups-zero : (j : ℕ) → groups 0 j ≡ blocks.nil
  unfolding groups sum
  groups-zero j = refl
