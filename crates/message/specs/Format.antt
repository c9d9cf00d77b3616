-- Messages (document 01, "Messages"): bincode legacy. A list is its count as 8 bytes, low byte first, and its items, one after another.
-- "A message is to end where its value ends" (02, order 1).
use Rattle.std.specs.Prelude.{ℕ, zero, suc, ◌+◌, ◌-◌, ◌*◌, Bool, true, false, ◌&&◌, List, length, get_or, take, drop, ltb, leb, eqb}
use Rattle.lists.specs.Pick.{pick}
use Rattle.lists.specs.All.{all_of}
use Rattle.lists.specs.Over.{tab}
use Rattle.lists.specs.Rows.{chunk}
use Rattle.lists.specs.Sect.{get}
use Rattle.block.specs.Block.{word_at}
use Rattle.message.specs.declared.Kind.{Kind}
use Rattle.message.specs.declared.Kind.TheVariants.{Items, Dms, Dvalues, Options}

-- ---- where the items lie
-- a bool is one byte, 0 or 1: the first c bytes of s are bools
unfoldable pub bools : ℕ → List ℕ → Bool
bools c s = all_of c (λ k. leb (get_or s k 0) 1)

-- the bytes of a list of items of `size` bytes at the front of s, 0 if s holds none there
unfoldable pub vec_len : ℕ → List ℕ → ℕ
vec_len size s = pick (leb 8 (length s) && leb (word_at s 0 * size) (length s - 8)) (8 + word_at s 0 * size) 0

-- the bytes of two values, one after another, 0 if either is missing
abbrev pub both_len : ℕ → ℕ → ℕ
both_len a b = pick (eqb a 0) 0 (pick (eqb b 0) 0 (a + b))

-- the bytes of the item at the front of s, 0 if s holds none there
unfoldable pub item_len : Kind → List ℕ → ℕ
item_len (Items size c) s = pick (leb size (length s) && bools c s) size 0
item_len Dms s = vec_len 1 s
item_len (Dvalues due) s =
    both_len (pick (bools (word_at s 0) (drop 8 s)) (vec_len 1 s) 0) (vec_len 16 (drop (8 + word_at s 0) s))
item_len Options s =
    pick (ltb 0 (length s)) (pick (eqb (get_or s 0 0) 0) 1 (pick (eqb (get_or s 0 0) 1 && leb 17 (length s)) 17 0)) 0

-- where item t begins in the message m
unfoldable pub item_at : Kind → List ℕ → ℕ → ℕ
item_at K m zero = 8
item_at K m (suc t) = item_at K m t + item_len K (drop (item_at K m t) m)

-- the count of the list
abbrev pub count_of : List ℕ → ℕ
count_of m = word_at m 0

-- the count in the message is believed, and the whole value decoded by it
unfoldable pub decodes : Kind → List ℕ → Bool
decodes K m = leb 8 (length m) && all_of (count_of m) (λ t. ltb 0 (item_len K (drop (item_at K m t) m)))

-- ---- what they say
-- An item as a value. Fields: a few bools, and the bytes behind them; Inner: an inner list of bytes, a dm; Inners: two inner lists, a
-- bucket's d values and their MACs of 16 bytes; Absent, Present: an option of a Block
pub data Item : Type 0 where
  Fields : List Bool → List ℕ → Item
  Inner : List ℕ → Item
  Inners : List Bool → List (List ℕ) → Item
  Absent : Item
  Present : List ℕ → Item

-- bytes as bools
unfoldable pub bits : List ℕ → List Bool
bits s = tab (length s) (λ k. eqb (get_or s k 0) 1)

-- the item at the front of s
unfoldable pub item_of : Kind → List ℕ → Item
item_of (Items size c) s = Fields (bits (take c (take size s))) (drop c (take size s))
item_of Dms s = Inner (get 8 (word_at s 0) s)
item_of (Dvalues due) s =
    Inners (bits (get 8 (word_at s 0) s)) (tab (word_at s (8 + word_at s 0)) (λ k. chunk 16 k (drop (16 + word_at s 0) s)))
item_of Options s = pick (eqb (get_or s 0 0) 0) Absent (Present (get 1 16 s))

-- the list that m begins with
unfoldable pub value_of : Kind → List ℕ → List Item
value_of K m = tab (count_of m) (λ t. item_of K (drop (item_at K m t) m))

-- ---- the reader
-- what is read of a message: nothing, or its value and the length used, the list's count included
pub data Decoding : Type 0 where
  Undecoded : Decoding
  Value : List Item → ℕ → Decoding

unfoldable pub read_of : Kind → List ℕ → Decoding
read_of K m = pick (decodes K m) (Value (value_of K m) (item_at K m (count_of m))) Undecoded

-- ---- the form of a message
-- both inner lists have `due` elements, where there are two
unfoldable pub both_due : ℕ → Item → Bool
both_due due (Fields b x) = true
both_due due (Inner x) = true
both_due due (Inners d x) = eqb (length d) due && eqb (length x) due
both_due due Absent = true
both_due due (Present x) = true

-- "a list count not the one due, inner lists too (dm aside)": an item has the inner counts that are due
unfoldable pub item_due : Kind → Item → Bool
item_due (Items size c) x = true
item_due Dms x = true
item_due (Dvalues due) x = both_due due x
item_due Options x = true

-- the list has `count` items, and each the inner counts that are due
unfoldable pub counts_due : Kind → ℕ → List Item → Bool
counts_due K count v = eqb (length v) count && all_of (length v) (λ t. item_due K (get_or v t Absent))

-- of what was read of a message of `len` bytes: "13 a message that doesn't decode"; "21, bytes after the value .. checked straight after
-- 13 and before the count"; 6 for another count than the one due; else 0
unfoldable pub form_by : Kind → ℕ → ℕ → Decoding → ℕ
form_by K count len Undecoded = 13
form_by K count len (Value v used) = pick (eqb used len) (pick (counts_due K count v) 0 6) 21

unfoldable pub form_of : Kind → ℕ → List ℕ → ℕ
form_of K count m = form_by K count (length m) (read_of K m)

-- ---- what the code tells of it
-- the length used, 0 for nothing
unfoldable pub used_of : Decoding → ℕ
used_of Undecoded = 0
used_of (Value v used) = used

-- the counts are those due
unfoldable pub due_of : Kind → ℕ → Decoding → Bool
due_of K count Undecoded = false
due_of K count (Value v used) = counts_due K count v
