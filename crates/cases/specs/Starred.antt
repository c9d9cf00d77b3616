-- The ten starred cases of document 01's "Checked by hand", about the definitions that the contracts cite. A row is a test; one theorem
-- says that every row holds.
use Rattle.std.specs.Prelude.{◌≡◌, refl, Bool, true, false, not, ◌&&◌, List, [], ◌∷◌, ℕ, get_or, eqb}
use Rattle.lists.specs.Pick.{pick}
use Rattle.lists.specs.All.{all_of}
use Rattle.lists.specs.Over.{tab, cat}
use Rattle.lists.specs.Same.{same?}
use Rattle.algebra.specs.Group.{addb, odd, num}
use Rattle.block.specs.Block.{le8}
use Rattle.block.specs.Group.{blocks}
use Rattle.share.specs.Share.{Share, shares}
use Rattle.encode.specs.Encode.{encode}
use Rattle.plan.specs.Plan.{bucket_size}
use Rattle.rbits.specs.Chosen.{chosen}
use Rattle.rounds.specs.Buckets.{Triple, two}
use Rattle.rounds.specs.Beaver.{finish}

-- a share of which only the bit matters
abbrev bare : Bool → Share
bare b = record { bit = b; mac = λ k. blocks.nil; key = λ k. blocks.nil }

abbrev triple : Bool → Bool → Triple
triple x z = record { tx = bare x; ty = bare false; tz = bare z }

-- equal bits
abbrev is : Bool → Bool → Bool
is a b = not (addb a b)

-- the Block with v as byte k, rest 0, picks element t and no other
abbrev picks_only : ℕ → ℕ → ℕ → Bool
picks_only k v t = all_of 128 (λ s. is (chosen (tab 16 (λ j. pick (eqb j k) v 0)) 16 0 s) (eqb s t))

-- two leaky ANDs, by their bits: x1, z1, x2, z2, d give x and z
abbrev combined : Bool → Bool → Bool → Bool → Bool → Triple
combined x1 z1 x2 z2 d = two (triple x1 z1) (triple x2 z2) d

abbrev pub rows : List Bool
rows =
    -- `bucket_size`: 3,099 gives 5. 3,100: 4. 279,999: 4. 280,000: 3.
    eqb (bucket_size 3099) 5 ∷ eqb (bucket_size 3100) 4 ∷ eqb (bucket_size 279999) 4 ∷ eqb (bucket_size 280000) 3
    -- Block byte 8 = 1, rest 0, picks element 64; byte 15 = 128 picks 127.
    ∷ picks_only 8 1 64 ∷ picks_only 15 128 127
    -- List [true]: 01 00 00 00 00 00 00 00 01 (hexadecimal).
    ∷ same? (encode 1 (λ t. num true ∷ [])) (1 ∷ 0 ∷ 0 ∷ 0 ∷ 0 ∷ 0 ∷ 0 ∷ 0 ∷ 1 ∷ [])
    -- Bits x1 1, z1 0, x2 1, z2 1, d 1: x 0, z 0; with d 0: z 1.
    ∷ (is (combined true false true true true).tx.bit false && is (combined true false true true true).tz.bit false)
    ∷ is (combined true false true true false).tz.bit true
    -- c, beta, a all 1: d 1, e 0 gives 0.
    ∷ is (finish (bare true) (bare true) (bare true) true false).bit false
    ∷ []

pub starred : all_of 10 (λ j. get_or rows j false) ≡ true
unfolding bucket_size chosen odd tab encode cat le8 same? two finish shares all_of
starred = refl
