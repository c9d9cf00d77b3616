-- `fabitn` (document 01, "What each round means"; WRK17b, Pi_aBit): 120 random strings check the MACs of all bits. Round 6.
-- `recs` is the list of records, r the strings, lent or as a seed, `m k` the message of party k.
use Rattle.std.specs.Prelude.{Bool, ◌||◌, List, ℕ, ◌+◌, ◌*◌, get_or, eqb}
use Rattle.lists.specs.Pick.{pick}
use Rattle.lists.specs.Over.{cat}
use Rattle.algebra.specs.Group.{bits, sel, odd}
use Rattle.algebra.specs.Sum.{sum}
use Rattle.block.specs.declared.Block.{Block}
use Rattle.block.specs.Block.{block_at, bytes_of, eq_block}
use Rattle.block.specs.Group.{blocks}
use Rattle.share.specs.Record.{record_len, bit_at, mac_at, key_at}
use Rattle.encode.specs.Encode.{encode, bit_block}
use Rattle.plan.specs.Plan.{bits_count, r_blocks, r_len}
use Rattle.rbits.specs.Chosen.{chosen}
use Rattle.draw.specs.Strings as Strings
use Rattle.draw.specs.Strings.{seed?}
use Rattle.engine.specs.declared.Frame.{Frame}
use Rattle.engine.specs.Step.{Fault, by_party}
use Rattle.rounds.specs.Area.{rows, first_of}

abbrev pub STRINGS : ℕ
STRINGS = 120

-- the bytes of an item, a bit and a Block; of a message; and of a row of key sums
abbrev pub ITEM : ℕ
ITEM = 17

abbrev pub MSG : ℕ
MSG = 8 + STRINGS * ITEM

abbrev pub ROW : ℕ
ROW = STRINGS * 16

-- r is all strings, or a seed (02, order 4): its length
unfoldable pub r_fits : ℕ → ℕ → Bool
r_fits l len = eqb len (r_len l) || seed? len

-- the strings themselves, "the Blocks lent or drawn"
unfoldable pub strings : ℕ → List ℕ → List ℕ
strings l r = Strings.strings (STRINGS * r_blocks l) r

-- string j chooses record t
unfoldable pub picks : Frame → List ℕ → ℕ → ℕ → Bool
picks f r j t = chosen (strings f.l r) (16 * r_blocks f.l) j t

-- the XORs of the bits, of the MACs for k and of the keys of k that string j chooses
unfoldable pub bit_sum : Frame → List ℕ → List ℕ → ℕ → Bool
bit_sum f r recs j = sum bits (bits_count f.l) (λ t. sel bits (picks f r j t) (bit_at recs (t * record_len f.n)))

unfoldable pub mac_sum : Frame → List ℕ → List ℕ → ℕ → ℕ → Block
mac_sum f r recs k j = sum blocks (bits_count f.l) (λ t. sel blocks (picks f r j t) (mac_at recs (t * record_len f.n) k))

unfoldable pub key_sum : Frame → List ℕ → List ℕ → ℕ → ℕ → Block
key_sum f r recs k j = sum blocks (bits_count f.l) (λ t. sel blocks (picks f r j t) (key_at recs (t * record_len f.n) k))

-- "Send the chosen bits' XOR and, to k, the XOR of the chosen MACs for k."
unfoldable pub abit_msg : Frame → List ℕ → List ℕ → ℕ → List ℕ
abit_msg f r recs k = encode STRINGS (λ j. bit_block (bit_sum f r recs j) (mac_sum f r recs k j))

-- the key sums are kept, so that r is needed in one call alone
unfoldable pub key_sums : Frame → List ℕ → List ℕ → List ℕ
key_sums f r recs = rows f ROW (λ k. cat STRINGS (λ j. bytes_of (key_sum f r recs k j)))

-- 8 where the sum of MACs that k sent for string j isn't the sum of keys, plus delta where k's bit is 1
unfoldable pub abit_fault : Block → List ℕ → (ℕ → List ℕ) → ℕ → ℕ → ℕ
abit_fault delta sums m j k =
    pick (eq_block (block_at (m k) (8 + j * ITEM + 1))
    (blocks.op (block_at sums ((k * STRINGS + j) * 16)) (sel blocks (odd (get_or (m k) (8 + j * ITEM) 0)) delta))) 0 8

-- string by string, party by party
unfoldable pub abits : Frame → Block → List ℕ → (ℕ → List ℕ) → Fault
abits f delta sums m = first_of STRINGS (λ j. by_party f (abit_fault delta sums m j))
