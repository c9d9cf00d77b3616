-- Several batches in one session (document 02, order 7): "A session takes a list of 32-bit counts in l's place; l is their sum".
use Rattle.std.specs.Prelude.{Bool, not, ◌&&◌, ◌||◌, List, [], ◌∷◌, ℕ, zero, suc, ◌+◌, ◌-◌, length, get_or, replicate, leb, eqb}
use Rattle.lists.specs.Pick.{pick}
use Rattle.lists.specs.All.{all_of}
use Rattle.lists.specs.Over.{tab, cat}

-- "up to 16 bundles together"
abbrev pub MOST : ℕ
MOST = 16

-- "the first record's position, from 0": batch j's is how many records the batches before it have
unfoldable pub first : ℕ → List ℕ → ℕ
first zero counts = 0
first (suc j) counts = first j counts + get_or counts j 0

-- "l is their sum"
unfoldable pub total : List ℕ → ℕ
total counts = first (length counts) counts

-- the same of at most 16; of more a box has no sum, and none is needed
abbrev pub sum_of : List ℕ → ℕ
sum_of counts = pick (leb (length counts) MOST) (total counts) 0

-- ---- what opening refuses of them
-- 23 is "no batch or more than 16"
unfoldable pub few : List ℕ → Bool
few counts = leb 1 (length counts) && leb (length counts) MOST

-- no "batch of 0"
unfoldable pub filled : List ℕ → Bool
filled counts = all_of (length counts) (λ j. not (eqb (get_or counts j 0) 0))

-- "A batch of 0 is 3, and a sum above 300,000 is 16. (New: 23, no batch or more than 16; after 15 and before 16.)": the first, or 0
unfoldable pub counts_fault : List ℕ → ℕ
counts_fault counts = pick (few counts) (pick (leb (total counts) 300000) (pick (filled counts) 0 3) 16) 23

-- ---- what a session keeps of them
-- 16 counts, zero where unused
unfoldable pub tally : List ℕ → List ℕ
tally counts = tab MOST (λ j. get_or counts j 0)

-- no batch stands behind an unused one
unfoldable pub joined : List ℕ → Bool
joined counts = all_of (MOST - 1) (λ j. not (eqb (get_or counts j 0) 0) || eqb (get_or counts (suc j) 0) 0)

-- counts that a session with l can have; of others no opening made it (BatchLaws, `whole-tally`, `Opened-with`)
unfoldable pub whole : ℕ → List ℕ → Bool
whole l counts = eqb (total counts) l && joined counts

-- ---- what is answered
-- "batch by batch, the first record's position, from 0, and the count"
unfoldable pub pair : List ℕ → ℕ → List ℕ
pair counts j = pick (eqb (get_or counts j 0) 0) (0 ∷ 0 ∷ []) (first j counts ∷ get_or counts j 0 ∷ [])

-- "unused ones of the 16 are zero"
unfoldable pub told : List ℕ → List ℕ
told counts = cat MOST (pair counts)

-- what any other answer has in their place
abbrev pub untold : List ℕ
untold = replicate 32 0
