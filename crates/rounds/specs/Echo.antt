-- Echo (document 01, "What each round means"; `broadcast_verification`): everybody tells everybody the hash of each list that it got.
use Rattle.std.specs.Prelude.{◌&&◌, ◌||◌, List, [], ◌∷◌, ℕ, ◌+◌, ◌-◌, get_or, take, drop, eqb}
use Rattle.lists.specs.Pick.{pick}
use Rattle.lists.specs.Rows.{chunk}
use Rattle.lists.specs.Same.{same?}
use Rattle.algebra.specs.Sum.{neq}
use Rattle.blake3.specs.Tree.{hash}
use Rattle.blake3.specs.Firsts.{firsts}
use Rattle.message.specs.declared.Kind.TheVariants.{Options}
use Rattle.message.specs.Format.{item_at, form_of}
use Rattle.encode.specs.Encode.{encode}
use Rattle.plan.specs.Plan.{FABITN, FLAAND, msg_len}
use Rattle.engine.specs.Step.{scan}
use Rattle.engine.specs.Plain.{Echo}

-- "`hash_vec` (first 16 bytes of BLAKE3 of the encoded list, count included)". "In 7 and 16 the list hashed is that of the first elements,
-- the bits, alone": rounds 6 and 15 have a bit and a Block, 17 bytes.
unfoldable pub hash_vec : ℕ → List ℕ → List ℕ
hash_vec k list = take 16 (hash (pick (eqb k FABITN || eqb k FLAAND) (firsts 17 list) list))

-- "a list of n options, absent for the box itself and for the receiver"; row k of `rows` is the hash of k's list
unfoldable pub echo_msg : ℕ → ℕ → List ℕ → ℕ → List ℕ
echo_msg n i rows r = encode n (λ k. pick (neq i k && neq r k) (1 ∷ chunk 16 k rows) (0 ∷ []))

-- entry k: "absent is 3, another hash 7"
unfoldable pub entry_fault : List ℕ → List ℕ → ℕ → ℕ
entry_fault rows m k =
    pick (eqb (get_or m (item_at Options m k) 0) 0) 3
    (pick (same? (take 16 (drop (item_at Options m k + 1) m)) (chunk 16 k rows)) 0 7)

-- "From each sender the entries of all but own box and sender are checked": the first fault of what j sent to i
unfoldable pub echo_fault : ℕ → ℕ → ℕ → List ℕ → List ℕ → ℕ
echo_fault n i j rows m = (scan n (λ k. pick (neq i k && neq j k) (entry_fault rows m k) 0)).code

unfoldable pub echo : Echo
echo = record { len = λ n. msg_len n 1 2; form = form_of Options; write = echo_msg; fault = echo_fault }
