-- The sums of `fabitn` (document 01, "What each round means"): the r strings choose records, and bits or Blocks of the chosen records are
-- added.
use Rattle.std.specs.Prelude.{ℕ, ◌+◌, ◌*◌, ◌/◌, ◌%◌, ◌^◌, Bool, List, [], ◌∷◌, get_or}
use Rattle.lists.specs.Over.{cat}
use Rattle.algebra.specs.Group.{bits, sel, odd}
use Rattle.algebra.specs.Sum.{sum}
use Rattle.block.specs.declared.Block.{Block}
use Rattle.block.specs.Block.{block_at}
use Rattle.block.specs.Group.{blocks}

-- whether string j chooses element t: "bit t mod 8 of byte (t mod 128) div 8 in Block t div 128". r holds the strings, `row` bytes each
unfoldable pub chosen : List ℕ → ℕ → ℕ → ℕ → Bool
chosen r row j t = odd (get_or r (j * row + (16 * (t / 128) + t % 128 / 8)) 0 / 2 ^ (t % 8))

-- the XOR of the Blocks at offset `at` of the chosen records, of `count` records of `stride` bytes
unfoldable pub block_sum : List ℕ → ℕ → ℕ → List ℕ → ℕ → ℕ → ℕ → Block
block_sum s stride at r row count j = sum blocks count (λ t. sel blocks (chosen r row j t) (block_at s (t * stride + at)))

-- the XOR of the chosen records' bits, which are their first bytes
unfoldable pub bit_sum : List ℕ → ℕ → List ℕ → ℕ → ℕ → ℕ → Bool
bit_sum s stride r row count j = sum bits count (λ t. sel bits (chosen r row j t) (odd (get_or s (t * stride) 0)))

-- n Blocks as words: of each the low word, then the high one
unfoldable pub words_of : ℕ → (ℕ → Block) → List ℕ
words_of n f = cat n (λ j. (f j).0 ∷ (f j).1 ∷ [])

-- Block j of such words
abbrev pub pair_at : List ℕ → ℕ → Block
pair_at a j = record { 0 = get_or a (j * 2) 0; 1 = get_or a (j * 2 + 1) 0 }
