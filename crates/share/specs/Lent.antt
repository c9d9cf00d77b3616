-- Share records as they are lent and given back (document 02, order 5): "The record becomes 32 + 32n bytes: bit, n, own number, 29 zero
-- bytes, then the entries as before." Between the bit and the entries stands a label, which says whose the record is; a box keeps records
-- without it (Layout.antt). This file alone knows what a label is and how long: what the others may know of it are the laws of LentLaws.antt.
use Rattle.std.specs.Prelude.{ℕ, zero, suc, ◌+◌, ◌*◌, Bool, List, ◌∷◌, ◌++◌, get_or, replicate, leb, eqb}
use Rattle.lists.specs.Pick.{pick}
use Rattle.lists.specs.All.{all_of}
use Rattle.lists.specs.Over.{cat}
use Rattle.algebra.specs.Group.{num}
use Rattle.share.specs.Record.{bit_at, mac_at, key_at, own_zero}
use Rattle.share.specs.Share.{Share, entry_of, record_of}

-- "n, own number, 29 zero bytes"
abbrev pub LABEL : ℕ
LABEL = 31

unfoldable pub label_of : ℕ → ℕ → List ℕ
label_of n i = n ∷ i ∷ replicate 29 0

-- "32 + 32n bytes"
unfoldable pub lent_len : ℕ → ℕ
lent_len n = 32 + 32 * n

-- the most that it has: that of eight parties
abbrev pub LENT_MOST : ℕ
LENT_MOST = 288

-- ---- written: the bit and the label, then the entries of party i's record of x among n parties
unfoldable pub lent_head : ℕ → ℕ → Bool → List ℕ
lent_head n i b = num b ∷ label_of n i

unfoldable pub lent_of : ℕ → ℕ → Share → List ℕ
lent_of n i x = lent_head n i x.bit ++ cat n (entry_of i x)

-- ---- read: the share in the record at `at`; its entries lie a label further behind than without one
unfoldable pub lent_at : List ℕ → ℕ → Share
lent_at s at = record { bit = bit_at s at; mac = mac_at s (at + LABEL); key = key_at s (at + LABEL) }

-- what a box keeps of `count` of them: records without labels
unfoldable pub kept_of : ℕ → ℕ → ℕ → List ℕ → List ℕ
kept_of n i count s = cat count (λ t. record_of n i (lent_at s (t * lent_len n)))

-- ---- checked
-- "n, own number or filler" are as due: the record is party i's among n
unfoldable pub labelled : ℕ → ℕ → List ℕ → ℕ → Bool
labelled n i s at = all_of LABEL (λ k. eqb (get_or s (at + (1 + k)) 0) (get_or (label_of n i) k 0))

-- 1 for a bit byte above 1, then 22 for a label that isn't as due ("after 1 and before 4"), then 4 for an own entry that isn't zero, else 0
unfoldable pub record_fault : ℕ → ℕ → List ℕ → ℕ → ℕ
record_fault n i s at = pick (leb (get_or s at 0) 1) (pick (labelled n i s at) (pick (own_zero i s (at + LABEL)) 0 4) 22) 1

-- the first fault of `count` records, record by record, else 0
unfoldable pub records_fault : ℕ → ℕ → List ℕ → ℕ → ℕ
records_fault n i s zero = 0
records_fault n i s (suc t) = pick (eqb (records_fault n i s t) 0) (record_fault n i s (t * lent_len n)) (records_fault n i s t)
