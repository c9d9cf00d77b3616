-- The calls for C (include/nuzsdike.h): a session is twenty numbers, an answer is one, and what is told of the batches stands in a lent
-- buffer. What each leaves is what the call's definition leaves.
use Rattle.std.specs.Prelude.{not, ◌&&◌, List, [], ◌∷◌, ◌++◌, ℕ, ◌+◌, ◌*◌, length, get_or, drop, ltb, leb, eqb}
use Rattle.lists.specs.Pick.{pick}
use Rattle.share.specs.Lent.{lent_len}
use Rattle.batches.specs.Batches.{total, counts_fault, tally}
use Rattle.plan.specs.Plan.{parties?, in_range, within, is_round, writes, bucket_size, msg_len}
use Rattle.plan.specs.Names.{round_name}
use Rattle.engine.specs.declared.Frame.{Frame}
use Rattle.engine.specs.declared.Session.{Session}
use Rattle.engine.specs.Step.{Lent, Reply, Accepted, Refused, Outcome, frame, round_spec}
use Rattle.engine.specs.OneBox.{taken}
use Rattle.engine.specs.Area.{off}
use Rattle.engine.specs.Plain.{protocol_of}
use Rattle.rounds.specs.Area.{JOINT, PAIRWISE, size_of}
use Rattle.rounds.specs.Opening as Opening
use Rattle.rounds.specs.Combine as Combine
use Rattle.rounds.specs.Table.{table}

-- n, i, l, the round due, and from COUNTS on the counts
abbrev pub COUNTS : ℕ
COUNTS = 4

abbrev pub SESSION : ℕ
SESSION = 20

-- what is told of the batches
abbrev pub TOLD : ℕ
TOLD = 32

unfoldable pub session_at : List ℕ → Session
session_at s = record {
  party = record { n = get_or s 0 0; i = get_or s 1 0; l = get_or s 2 0 };
  due = get_or s 3 0;
  counts = tally (drop COUNTS s);
}

unfoldable pub head_of : Frame → ℕ → List ℕ
head_of f due = f.n ∷ f.i ∷ f.l ∷ due ∷ []

unfoldable pub numbers_of : Session → List ℕ
numbers_of s = head_of s.party s.due ++ s.counts

-- 0 for accepted; else the number in the low byte, and the party above it
unfoldable pub packed_of : Reply → ℕ
packed_of Accepted = 0
packed_of (Refused code party) = code + 256 * party

-- no party: above every 32-bit number
abbrev pub NO_PARTY : ℕ
NO_PARTY = 0x1_0000_0000

-- what such a call leaves
pub record Exported : Type 0 where
  pub answer : ℕ
  pub session : List ℕ
  pub work : List ℕ
  pub out : List ℕ

abbrev pub exported : ℕ → List ℕ → List ℕ → List ℕ → Exported
exported answer session work out = record { answer = answer; session = session; work = work; out = out }

unfoldable pub of_outcome : Outcome → Exported
of_outcome o = exported (packed_of o.reply) (numbers_of o.session) o.work o.out

-- opening's reasons, where the session is one more of the buffers whose length is due
unfoldable pub open_reason : List ℕ → Opening.Args → ℕ
open_reason s a =
    Opening.or_fault
    (Opening.lengths_fault (Opening.party a) (counts_fault a.counts) (length a.bits) (length a.alpha) (length a.beta)
    (eqb (length s) SESSION && Opening.buffers_due a))
    (Opening.bytes_fault a)

-- a refused opening leaves everything as it was, a session that stands in the buffer too
unfoldable pub open_c : List ℕ → Opening.Args → Exported
open_c s a =
    pick (eqb (open_reason s a) 0) (of_outcome (Opening.spec a))
    (exported (packed_of (Refused (open_reason s a) a.i)) s a.work a.out)

-- what a round call leaves, the buffer for the batches with it
pub record Turned : Type 0 where
  pub call : Exported
  pub told : List ℕ

abbrev pub turned : Exported → List ℕ → Turned
turned call told = record { call = call; told = told }

-- "Round 22 also answers" (02, order 7): an accepted call after which no round is due writes the buffer, and no other does
unfoldable pub told_c : Reply → ℕ → List ℕ → List ℕ → List ℕ
told_c v due told b = pick (taken v && eqb due 0) told b

unfoldable pub of_turn : Outcome → List ℕ → Turned
of_turn o b = turned (of_outcome o) (told_c o.reply o.session.due o.told b)

-- "20, 19, 17", where that buffer has another length than is due
unfoldable pub told_reason : Session → ℕ → ℕ
told_reason s k = pick (not ((protocol_of table).alive s)) 20 (pick (not (eqb k s.due)) 19 17)

-- a session of another length is none that opening can have made: 20, and there is no i to name
unfoldable pub round_c : List ℕ → ℕ → Lent → List ℕ → List ℕ → Turned
round_c s k q w b =
    pick (eqb (length s) SESSION)
    (pick (eqb (length b) TOLD)
    (of_turn (round_spec (protocol_of table) (session_at s) k q w) b)
    (turned (exported (packed_of (Refused (told_reason (session_at s) k) (session_at s).party.i)) s w q.out) b))
    (turned (exported (packed_of (Refused 20 NO_PARTY)) s w q.out) b)

-- combining has no session
pub record Combined : Type 0 where
  pub answer : ℕ
  pub out : List ℕ

abbrev pub combined : ℕ → List ℕ → Combined
combined answer out = record { answer = answer; out = out }

unfoldable pub combine_c : Combine.Args → Combined
combine_c a = combined (packed_of (Combine.spec a).reply) (Combine.spec a).out

-- ---- what a host asks; 0 where there is none
-- the sum of a list of counts, or the refusal: a call that has no own number names no party
unfoldable pub sum_c : List ℕ → ℕ
sum_c c = pick (eqb (counts_fault c) 0) (total c) (packed_of (Refused (counts_fault c) NO_PARTY))

-- the round due
unfoldable pub due_of : List ℕ → ℕ
due_of s = pick (eqb (length s) SESSION && (protocol_of table).alive (session_at s)) (get_or s 3 0) 0

-- the round after round k of n parties, the first after opening (k = 0)
unfoldable pub round_after : ℕ → ℕ → ℕ
round_after n k = pick (parties? n) (writes n k) 0

-- a message of round k
unfoldable pub message_len : ℕ → ℕ → ℕ → ℕ
message_len n l k = pick (in_range n l && is_round n k) (msg_len n l k) 0

-- byte j of the name of round k
unfoldable pub name_byte : ℕ → ℕ → ℕ
name_byte k j = pick (ltb j 16) (get_or (round_name k) j 0) 0

-- a share record
unfoldable pub record_bytes : ℕ → ℕ
record_bytes n = pick (parties? n) (lent_len n) 0

-- "b = `bucket_size`(l)"
unfoldable pub bucket_of : ℕ → ℕ
bucket_of l = pick (leb 1 l && leb l 300000) (bucket_size l) 0

-- where the joint seed and the pairwise seeds start in the work area
unfoldable pub joint_at : ℕ → ℕ → ℕ
joint_at n l = within n l (off (size_of (frame n l 0)) JOINT)

unfoldable pub pairwise_at : ℕ → ℕ → ℕ
pairwise_at n l = within n l (off (size_of (frame n l 0)) PAIRWISE)
