-- The work area (docs/WORK_AREA.md): sections one after another, each written once in a session but for the last two, the echoes', and the
-- own row of H_COMMS, where the own commitments wait. Rows are by party; the own row of what is received is zero.
use Rattle.std.specs.Prelude.{ℕ, zero, suc, ◌+◌, ◌-◌, ◌*◌, List, [], ◌∷◌, get_or, replicate}
use Rattle.lists.specs.Pick.{pick}
use Rattle.lists.specs.Over.{cat}
use Rattle.share.specs.Record.{record_len}
use Rattle.plan.specs.Plan.{bucket_size, leaky, bits_count, dm_len}
use Rattle.engine.specs.declared.Frame.{Frame}
use Rattle.engine.specs.Step.{Fault, none?, or_else, other}
use Rattle.engine.specs.Area.{off, sec, put_sec}

-- own delta
abbrev pub DELTA : ℕ
DELTA = 0

-- own seed of the joint toss
abbrev pub SEED : ℕ
SEED = 1

-- own seeds of the pairwise tosses, by party
abbrev pub PAIRS : ℕ
PAIRS = 2

-- the masks s of the half ANDs, by party
abbrev pub MASKS : ℕ
MASKS = 3

-- records: x, y and r, then the 40 of `fashare`, then the 120 of `fabitn`
abbrev pub BITS : ℕ
BITS = 4

-- records alpha
abbrev pub ALPHA : ℕ
ALPHA = 5

-- records beta
abbrev pub BETA : ℕ
BETA = 6

-- commitments of the joint toss
abbrev pub COMMS : ℕ
COMMS = 7

-- joint seed
abbrev pub JOINT : ℕ
JOINT = 8

-- commitments of the pairwise tosses
abbrev pub PAIR_COMMS : ℕ
PAIR_COMMS = 9

-- pairwise seeds
abbrev pub PAIRWISE : ℕ
PAIRWISE = 10

-- for each party, the sums of the keys that the 120 strings choose
abbrev pub KEY_SUMS : ℕ
KEY_SUMS = 11

-- commitments of `fashare`
abbrev pub SHARE_COMMS : ℕ
SHARE_COMMS = 12

-- dms of `fashare`
abbrev pub DMS : ℕ
DMS = 13

-- for each position phi, the sum of G over the x keys, and for each party u and the two bits H
abbrev pub LEAKY : ℕ
LEAKY = 14

-- for each position the own bit z, and the sum of G over the x MACs
abbrev pub ZS : ℕ
ZS = 15

-- the others' bits e
abbrev pub ES : ℕ
ES = 16

-- own h
abbrev pub HS : ℕ
HS = 17

-- commitments of h; in the own row the own ones, until the others' are kept
abbrev pub H_COMMS : ℕ
H_COMMS = 18

-- the permutation from the joint seed, 4 bytes each, low byte first
abbrev pub PERM : ℕ
PERM = 19

-- the opened d of each bucket
abbrev pub DS : ℕ
DS = 20

-- for each bucket the records a and c: the combined x and z
abbrev pub TRIPLES : ℕ
TRIPLES = 21

-- number and party of a fault that the echo's call reports
abbrev pub PENDING : ℕ
PENDING = 22

-- `hash_vec` of the lists of the last plain round, for its echo
abbrev pub HASHES : ℕ
HASHES = 23

-- the bytes of a row of LEAKY
unfoldable pub leaky_len : ℕ → ℕ
leaky_len n = 32 + n * 18

-- how many bytes each section has
unfoldable pub sizes : Frame → List ℕ
sizes f =
    16 ∷ 32 ∷ (32 * f.n) ∷ (f.n * leaky f.l) ∷ (bits_count f.l * record_len f.n) ∷ (f.l * record_len f.n) ∷
    (f.l * record_len f.n) ∷ (f.n * 32) ∷ 32 ∷ (f.n * 32) ∷ (f.n * 32) ∷ (f.n * (120 * 16)) ∷ (f.n * (40 * 96)) ∷
    (f.n * (40 * dm_len f.n)) ∷ (leaky f.l * leaky_len f.n) ∷ (leaky f.l * 17) ∷ (f.n * leaky f.l) ∷
    (leaky f.l * 16) ∷ (f.n * (leaky f.l * 32)) ∷ (leaky f.l * 4) ∷ (f.l * (bucket_size f.l - 1)) ∷
    (f.l * (2 * record_len f.n)) ∷ 2 ∷ (f.n * 16) ∷ []

-- the sections of the rounds; the two of the echoes stand behind them
abbrev pub ROUNDS_OWN : ℕ
ROUNDS_OWN = 22

abbrev pub SECTIONS : ℕ
SECTIONS = 24

unfoldable pub size_of : Frame → ℕ → ℕ
size_of f s = get_or (sizes f) s 0

-- the work area's length
unfoldable pub work_len : Frame → ℕ
work_len f = off (size_of f) SECTIONS

-- section s of the work area w
unfoldable pub at : Frame → ℕ → List ℕ → List ℕ
at f s w = sec (size_of f) s w

-- w with x as section s
unfoldable pub keep : Frame → ℕ → List ℕ → List ℕ → List ℕ
keep f s x w = put_sec (size_of f) s x w

-- a row of m bytes for each party, zero for the own
unfoldable pub rows : Frame → ℕ → (ℕ → List ℕ) → List ℕ
rows f m g = cat f.n (λ k. pick (other f k) (g k) (replicate m 0))

-- the first fault of g 0, g 1, .. g (c - 1)
unfoldable pub first_of : ℕ → (ℕ → Fault) → Fault
first_of zero g = none?
first_of (suc c) g = or_else (first_of c g) (g c)
