-- Tosses (document 01, "What each round means"; `shared_rng`, `shared_rng_pairwise`): rounds 1 and 3 toss the joint seed, 4 and 5 the
-- pairwise ones. `m k` is the message of party k.
use Rattle.std.specs.Prelude.{List, [], ◌∷◌, ◌++◌, ℕ, ◌+◌, ◌/◌, ◌%◌, get_or, take, drop}
use Rattle.std.specs.Int.Bits.{bit_xor}
use Rattle.lists.specs.Pick.{pick}
use Rattle.lists.specs.Over.{tab}
use Rattle.lists.specs.Rows.{chunk}
use Rattle.lists.specs.Same.{same?}
use Rattle.algebra.specs.Group.{numbers}
use Rattle.algebra.specs.Sum.{others}
use Rattle.block.specs.Block.{xor_inplace}
use Rattle.blake3.specs.Tree.{hash}
use Rattle.encode.specs.Encode.{encode}
use Rattle.engine.specs.declared.Frame.{Frame}
use Rattle.engine.specs.Step.{Fault, by_party}
use Rattle.rounds.specs.Area.{rows}

-- "commitment = BLAKE3 of 32 seed bytes and the sender's number as 16 bits, high byte first"
unfoldable pub commitment : List ℕ → ℕ → List ℕ
commitment seed j = hash (seed ++ (j / 256 % 256 ∷ j % 256 ∷ []))

-- a message with the commitment of a seed, and one with the seed
unfoldable pub comm_msg : List ℕ → ℕ → List ℕ
comm_msg seed j = encode 1 (λ t. commitment seed j)

unfoldable pub ver_msg : List ℕ → List ℕ
ver_msg seed = encode 32 (λ t. get_or seed t 0 ∷ [])

-- the commitment, or the seed, in a message
unfoldable pub told : List ℕ → List ℕ
told m = take 32 (drop 8 m)

-- what all others told
unfoldable pub told_rows : Frame → (ℕ → List ℕ) → List ℕ
told_rows f m = rows f 32 (λ k. told (m k))

-- 2 for the first party whose seed doesn't open its commitment
unfoldable pub opening : Frame → List ℕ → (ℕ → List ℕ) → Fault
opening f comms m = by_party f (λ k. pick (same? (commitment (told (m k)) k) (chunk 32 k comms)) 0 2)

-- "The joint seed is the XOR of all seeds"
unfoldable pub joint_seed : Frame → List ℕ → (ℕ → List ℕ) → List ℕ
joint_seed f seed m = tab 32 (λ t. bit_xor (get_or seed t 0) (others numbers f.i f.n (λ k. get_or (told (m k)) t 0)))

-- "a pairwise seed is the XOR of two"
unfoldable pub pairwise_seeds : Frame → List ℕ → (ℕ → List ℕ) → List ℕ
pairwise_seeds f pairs m = rows f 32 (λ k. xor_inplace (chunk 32 k pairs) (told (m k)))
