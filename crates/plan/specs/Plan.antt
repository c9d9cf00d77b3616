-- The numbers of a session (document 01, "The call", "What each round means"): the order of the rounds, what each round's messages are, and
-- the length of each lent buffer. n is the number of parties, l the number of results, k a round.
use Rattle.std.specs.Prelude.{ℕ, zero, suc, ◌+◌, ◌-◌, ◌*◌, ◌/◌, ◌≤◌, Bool, true, false, ◌&&◌, ◌||◌, List, [], ◌∷◌, leb, eqb}
use Rattle.lists.specs.Pick.{pick}
use Rattle.message.specs.declared.Kind.{Kind}
use Rattle.message.specs.declared.Kind.TheVariants.{Items, Dms, Dvalues, Options}
use Rattle.share.specs.Lent.{lent_len}
use Rattle.engine.specs.Order.{Order, echo_in, round_in, next_in}

-- ---- the order of the rounds

-- "Rounds, in order": all but the echoes by name
abbrev pub RNG_COMM : ℕ
RNG_COMM = 1

abbrev pub RNG_VER : ℕ
RNG_VER = 3

abbrev pub PAIR_COMM : ℕ
PAIR_COMM = 4

abbrev pub PAIR_VER : ℕ
PAIR_VER = 5

abbrev pub FABITN : ℕ
FABITN = 6

abbrev pub FASHARE_COMM : ℕ
FASHARE_COMM = 8

abbrev pub FASHARE_VER : ℕ
FASHARE_VER = 10

abbrev pub FASHARE_DIBI : ℕ
FASHARE_DIBI = 12

abbrev pub HAAND : ℕ
HAAND = 14

abbrev pub FLAAND : ℕ
FLAAND = 15

abbrev pub FLAAND_COMM : ℕ
FLAAND_COMM = 17

abbrev pub FLAAND_HASH : ℕ
FLAAND_HASH = 19

abbrev pub DVALUE : ℕ
DVALUE = 21

abbrev pub FAAND : ℕ
FAAND = 22

abbrev pub the_rounds : Order
the_rounds = record { last = FAAND; echoes = 2 ∷ 7 ∷ 9 ∷ 11 ∷ 13 ∷ 16 ∷ 18 ∷ 20 ∷ [] }

abbrev pub echo? : ℕ → Bool
echo? k = echo_in the_rounds k

-- round k takes place
abbrev pub is_round : ℕ → ℕ → Bool
is_round n k = round_in the_rounds (eqb n 2) k

-- the round after k, the first after opening (k = 0), and 0 after the last
abbrev pub next_round : ℕ → ℕ → ℕ
next_round n k = next_in the_rounds (eqb n 2) k

-- the rounds in order, for two parties and for more: next_round walks through them (PlanLaws, `order-next`)
unfoldable pub order : Bool → List ℕ
order true = 1 ∷ 3 ∷ 4 ∷ 5 ∷ 6 ∷ 8 ∷ 10 ∷ 12 ∷ 14 ∷ 15 ∷ 17 ∷ 19 ∷ 21 ∷ 22 ∷ []
order false = 1 ∷ 2 ∷ 3 ∷ 4 ∷ 5 ∷ 6 ∷ 7 ∷ 8 ∷ 9 ∷ 10 ∷ 11 ∷ 12 ∷ 13 ∷ 14 ∷ 15 ∷ 16 ∷ 17 ∷ 18 ∷ 19 ∷ 20 ∷ 21 ∷ 22 ∷ []

-- the round whose messages the call for round k writes (k = 0: opening), 0 for the last and for what is no round
unfoldable pub writes : ℕ → ℕ → ℕ
writes n k = pick (eqb k 0 || is_round n k) (next_round n k) 0

-- ---- counts

-- "b = `bucket_size`(l): 3 from 280,000, 4 from 3,100, else 5"
unfoldable pub bucket_size : ℕ → ℕ
bucket_size l = pick (leb 280000 l) 3 (pick (leb 3100 l) 4 5)

-- the leaky ANDs, l·b
unfoldable pub leaky : ℕ → ℕ
leaky l = l * bucket_size l

-- "3·l·b + 160 share records of bits": fashare's count with its 40 more, and the 120 of fabitn
unfoldable pub bits_count : ℕ → ℕ
bits_count l = 3 * leaky l + 160

-- "120 strings r, one after another, each of l' / 128 Blocks, rounded up", l' being all the bits
unfoldable pub r_blocks : ℕ → ℕ
r_blocks l = (bits_count l + 127) / 128

unfoldable pub r_len : ℕ → ℕ
r_len l = 120 * (16 * r_blocks l)

-- ---- the message of a round

-- the items of its list: commitments (1, 4, 17), the bytes of a seed (3, 5), a bit and a Block (6, 15), three commitments (8), dms (10),
-- Blocks (12, 19), two bits (14), a bucket's d values and MACs (21), two bits and two Blocks (22); an echo's are options of a Block
unfoldable pub kind_of : ℕ → ℕ → Kind
kind_of l k =
    pick (eqb k RNG_COMM || eqb k PAIR_COMM || eqb k FLAAND_COMM) (Items 32 0)
    (pick (eqb k RNG_VER || eqb k PAIR_VER) (Items 1 0)
    (pick (eqb k FABITN || eqb k FLAAND) (Items 17 1)
    (pick (eqb k FASHARE_COMM) (Items 96 0)
    (pick (eqb k FASHARE_VER) Dms
    (pick (eqb k FASHARE_DIBI || eqb k FLAAND_HASH) (Items 16 0)
    (pick (eqb k HAAND) (Items 2 2)
    (pick (eqb k DVALUE) (Dvalues (bucket_size l - 1))
    (pick (eqb k FAAND) (Items 34 2)
    Options))))))))

-- how many items are due; an echo's are n
unfoldable pub count_due : ℕ → ℕ → ℕ → ℕ
count_due n l k =
    pick (eqb k RNG_COMM || eqb k PAIR_COMM) 1
    (pick (eqb k RNG_VER || eqb k PAIR_VER) 32
    (pick (eqb k FABITN) 120
    (pick (eqb k FASHARE_COMM || eqb k FASHARE_VER || eqb k FASHARE_DIBI) 40
    (pick (eqb k HAAND || eqb k FLAAND || eqb k FLAAND_COMM || eqb k FLAAND_HASH) (leaky l)
    (pick (eqb k DVALUE || eqb k FAAND) l
    n)))))

-- "dm = own bit byte, then MACs by party, own left out"
unfoldable pub dm_len : ℕ → ℕ
dm_len n = 1 + 16 * (n - 1)

-- the length of a box's own message of `count` items. In an echo two options are absent, "for the box itself and for the receiver".
unfoldable pub list_len : ℕ → ℕ → Kind → ℕ
list_len n count (Items size bools) = 8 + count * size
list_len n count Dms = 8 + count * (8 + dm_len n)
list_len n count (Dvalues due) = 8 + count * (8 + due + (8 + 16 * due))
list_len n count Options = 8 + count + 16 * (count - 2)

-- a message of `count` items whose length can be computed
abbrev pub Listed : ℕ → ℕ → Kind → Type 0
Listed n count (Items size bools) = (count ≤ 1500000) × (size ≤ 128)
Listed n count Dms = (count ≤ 1500000) × (1 ≤ n) × (n ≤ 8)
Listed n count (Dvalues due) = (count ≤ 1500000) × (due ≤ 4)
Listed n count Options = (2 ≤ count) × (count ≤ 8)

unfoldable pub msg_len : ℕ → ℕ → ℕ → ℕ
msg_len n l k = list_len n (count_due n l k) (kind_of l k)

-- ---- the lengths of what is lent; 0 where opening refuses n or l (15, 16, 3)

unfoldable pub parties? : ℕ → Bool
parties? n = leb 2 n && leb n 8

unfoldable pub in_range : ℕ → ℕ → Bool
in_range n l = parties? n && leb 1 l && leb l 300000

-- what in_range says, for those that ask for it
pub record InRange (n l : ℕ) : Type 0 where
  pub two : 2 ≤ n
  pub eight : n ≤ 8
  pub one : 1 ≤ l
  pub most : l ≤ 300000

abbrev pub within : ℕ → ℕ → ℕ → ℕ
within n l x = pick (in_range n l) x 0

-- the list of bits; alpha, beta and the results; the masks; the pairwise seeds
unfoldable pub bits_len : ℕ → ℕ → ℕ
bits_len n l = within n l (bits_count l * lent_len n)

unfoldable pub shares_len : ℕ → ℕ → ℕ
shares_len n l = within n l (l * lent_len n)

unfoldable pub masks_len : ℕ → ℕ → ℕ
masks_len n l = within n l (n * leaky l)

unfoldable pub pairs_len : ℕ → ℕ
pairs_len n = pick (parties? n) (32 * n) 0

-- the outgoing buffer of the call for round k (k = 0: opening): "just the messages that call writes, by party, own left out, or the
-- results"
unfoldable pub out_len : ℕ → ℕ → ℕ → ℕ
out_len n l k =
    pick (eqb k FAAND) (shares_len n l)
    (pick (eqb (writes n k) 0) 0
    (within n l ((n - 1) * msg_len n l (writes n k))))

-- "The r Blocks are lent with the call that writes `fabitn`": the bytes of r
unfoldable pub r_due : ℕ → ℕ → ℕ → ℕ
r_due n l k = pick (eqb (writes n k) FABITN) (within n l (r_len l)) 0

-- what one box sends to one other in the rounds up to k, and to all others in a session
unfoldable pub sent_up_to : ℕ → ℕ → ℕ → ℕ
sent_up_to n l zero = 0
sent_up_to n l (suc k) = sent_up_to n l k + pick (is_round n (suc k)) (msg_len n l (suc k)) 0

unfoldable pub sent : ℕ → ℕ → ℕ
sent n l = within n l ((n - 1) * sent_up_to n l FAAND)
