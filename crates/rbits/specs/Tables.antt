-- What the code computes on the way: Blocks of records, and tables of the sums of every choice of four Blocks.
use Rattle.std.specs.Prelude.{ℕ, zero, suc, ◌+◌, ◌*◌, ◌/◌, ◌%◌, ◌^◌, Bool, false, List, [], ◌∷◌, ◌++◌, map, get_or, ltb}
use Rattle.std.specs.Int.Bits.{bit_xor, bit_and}
use Rattle.lists.specs.Over.{cat}
use Rattle.lists.specs.Pick.{pick}
use Rattle.algebra.specs.Group.{odd, num}
use Rattle.algebra.specs.Sum.{sum}
use Rattle.block.specs.declared.Block.{Block}
use Rattle.block.specs.Block.{word_at, block_at, xor_of}
use Rattle.block.specs.Group.{blocks}
use Rattle.rbits.specs.Chosen.{words_of, pair_at}

-- the Block at `at` of record t; zero past the last record
unfoldable pub record_block : List ℕ → ℕ → ℕ → ℕ → ℕ → Block
record_block s stride at count t = pick (ltb t count) (block_at s (t * stride + at)) blocks.nil

-- the sums of every choice of n words: entry c has word e where digit e of c is 1
unfoldable pub sums : ℕ → (ℕ → ℕ) → List ℕ
sums zero f = 0 ∷ []
sums (suc n) f = sums n f ++ map (λ x. bit_xor x (f n)) (sums n f)

-- entry c of the sums of n Blocks
abbrev pub sum_at : ℕ → (ℕ → Block) → ℕ → Block
sum_at n f c = record { 0 = get_or (sums n (λ e. (f e).0)) c 0; 1 = get_or (sums n (λ e. (f e).1)) c 0 }

-- three Blocks and four
abbrev pub three : Block → Block → Block → ℕ → Block
three a b c e = get_or (a ∷ b ∷ c ∷ []) e blocks.nil

abbrev pub four : Block → Block → Block → Block → ℕ → Block
four a b c d e = get_or (a ∷ b ∷ c ∷ d ∷ []) e blocks.nil

abbrev pub pair : ℕ → ℕ → Block
pair x y = record { 0 = x; 1 = y }

-- the sums of three Blocks, each with y added
unfoldable pub sums8 : Block → Block → Block → Block → List ℕ
sums8 a b c y = words_of 8 (λ i. xor_of (sum_at 3 (three a b c) i) y)

-- the sums of four Blocks, and the tables of 64, four and four
unfoldable pub table4 : (ℕ → Block) → List ℕ
table4 f = words_of 16 (sum_at 4 f)

unfoldable pub tables : (ℕ → Block) → List ℕ
tables f = cat 16 (λ k. table4 (λ e. f (k * 4 + e)))

-- what w chooses of 64 Blocks, by a table for each four digits of w
abbrev pub entry : List ℕ → ℕ → ℕ → Block
entry t w k = pair_at t (k * 16 + w / 2 ^ (k * 4) % 16)

unfoldable pub lookup : List ℕ → ℕ → Block
lookup t w = sum blocks 16 (entry t w)

-- word g of string j
abbrev pub r_word : List ℕ → ℕ → ℕ → ℕ → ℕ
r_word r row g j = word_at r (j * row + g * 8)

-- a window: Block q of each string, for the 128 records from 128q on
unfoldable pub window_of : List ℕ → ℕ → ℕ → List ℕ
window_of r row q = words_of 120 (λ j. block_at r (j * row + q * 16))

-- the word of string j in half h of a window, for 64 records
abbrev pub half_at : List ℕ → ℕ → ℕ → ℕ
half_at win h j = get_or win (j * 2 + h) 0

-- ---- bits

-- the bit of record t; 0 past the last record
unfoldable pub record_bit : List ℕ → ℕ → ℕ → ℕ → Bool
record_bit s stride count t = pick (ltb t count) (odd (get_or s (t * stride) 0)) false

-- n bits as the digits of a number
unfoldable pub packed : ℕ → (ℕ → Bool) → ℕ
packed zero f = 0
packed (suc n) f = num (f n) * 2 ^ n + packed n f

-- string j's word, with the digits of b that its word in half h of a window chooses added
abbrev pub masked_at : List ℕ → List ℕ → ℕ → ℕ → ℕ → ℕ
masked_at acc win h b j = bit_xor (get_or acc j 0) (bit_and (half_at win h j) b)
