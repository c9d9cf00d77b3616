-- The rule on made-up words.
use Rattle.std.specs.Prelude.{◌≡◌, refl, [], ◌∷◌, ℕ, ◌-◌, ◌^◌, get_or, eqb}
use Rattle.lists.specs.Pick.{pick}
use Rattle.lists.specs.Over.{tab}
use Rattle.shuffle.specs.Shuffle.{PASSED, multiple, used, swap, down, shuffled}

-- for l·b = 1 nothing is drawn: the words don't matter
pub one-nothing : (w v : ℕ → ℕ) → shuffled w 1 ≡ shuffled v 1
unfolding shuffled down
one-nothing w v = refl

-- ---- which word is used
-- 2^32 − 1 is itself a multiple of 3: "After 64 words passed over at one t, the 65th is used as it is."
pub all-passed : used (λ k. 2 ^ 32 - 1) 3 PASSED 0 ≡ 64
unfolding used multiple
all-passed = refl

pub first-used : used (λ k. 7) 3 PASSED 0 ≡ 0
unfolding used multiple
first-used = refl

-- the word below is used at once
pub highest-used : used (λ k. 2 ^ 32 - 2) 3 PASSED 0 ≡ 0
unfolding used multiple
highest-used = refl

-- 2^32 is a multiple of 4: no word is passed over
pub none_passed : used (λ k. 2 ^ 32 - 1) 4 PASSED 0 ≡ 0
unfolding used multiple
none_passed = refl

-- ---- the list
-- 9 mod 4 is 1: 0 3 2 1. At t = 2 the word 2^32 − 1 is passed over, and 6 mod 3 is 0: 2 3 0 1. 5 mod 2 is 1: entry 1 stays.
pub four-drawn : shuffled (λ k. get_or (9 ∷ (2 ^ 32 - 1) ∷ 6 ∷ 5 ∷ []) k 0) 4 ≡ 2 ∷ 3 ∷ 0 ∷ 1 ∷ []
unfolding shuffled down used multiple swap tab
four-drawn = refl

-- At t = 2 the words 0 to 63 are passed over, and word 64, 2^32 − 1, is used: mod 3 it is 0, 2 1 0. At t = 1 word 65 is next: 2 mod 2 is 0.
pub passed-drawn : shuffled (λ k. pick (eqb k 65) 2 (2 ^ 32 - 1)) 3 ≡ 1 ∷ 2 ∷ 0 ∷ []
unfolding shuffled down used multiple swap tab
passed-drawn = refl
