-- `fashare` (document 01, "What each round means"; WRK17b, Pi_aShare): the MACs of 40 bits, which are then dropped, are checked against
-- the keys that everybody committed to, and what is told of them against its own commitment (document 02, order 2). Rounds 8, 10 and 12.
-- `recs` is the list of records, `comms` the rows of commitments, `m k` the message of party k.
use Rattle.std.specs.Prelude.{Bool, ◌||◌, List, ◌∷◌, ◌++◌, ℕ, ◌+◌, ◌-◌, ◌*◌, get_or, take, drop, ltb, leb, eqb}
use Rattle.lists.specs.Pick.{pick}
use Rattle.lists.specs.Over.{cat}
use Rattle.lists.specs.Same.{same?}
use Rattle.algebra.specs.Group.{bits, sel, odd, num}
use Rattle.algebra.specs.Sum.{neq, others}
use Rattle.block.specs.declared.Block.{Block}
use Rattle.block.specs.Block.{word_at, block_at, bytes_of, eq_block}
use Rattle.block.specs.Group.{blocks}
use Rattle.blake3.specs.Tree.{hash}
use Rattle.share.specs.Record.{record_len}
use Rattle.share.specs.Share.{Share, share_at}
use Rattle.message.specs.declared.Kind.TheVariants.{Dms}
use Rattle.message.specs.Format.{item_at}
use Rattle.encode.specs.Encode.{encode, dm_item}
use Rattle.plan.specs.Plan.{leaky, dm_len}
use Rattle.engine.specs.declared.Frame.{Frame}
use Rattle.engine.specs.Step.{Fault, or_else, by_party}
use Rattle.engine.specs.Area.{nth}
use Rattle.rounds.specs.Area.{rows, first_of}

abbrev pub STRINGS : ℕ
STRINGS = 40

-- the bytes of the three commitments to a string; of a row of commitments; and of the messages of rounds 8 and 12
abbrev pub COMM : ℕ
COMM = 96

abbrev pub COMM_ROW : ℕ
COMM_ROW = STRINGS * COMM

abbrev pub COMM_MSG : ℕ
COMM_MSG = 8 + COMM_ROW

abbrev pub DIBI_MSG : ℕ
DIBI_MSG = 8 + STRINGS * 16

-- string q is about record 3·l·b + q: where that begins
abbrev pub record_at : Frame → ℕ → ℕ
record_at f q = (3 * leaky f.l + q) * record_len f.n

unfoldable pub own : Frame → List ℕ → ℕ → Share
own f recs q = share_at recs (record_at f q)

-- "dm = own bit byte, then MACs by party, own left out"
unfoldable pub dm : Frame → List ℕ → ℕ → List ℕ
dm f recs q = num (own f recs q).bit ∷ cat (f.n - 1) (λ p. bytes_of ((own f recs q).mac (nth f.i p)))

-- where party j's dm has its MAC for k: "party 2's MAC for 3 starts at byte 33, for 1 at 17"
unfoldable pub dm_mac : ℕ → ℕ → ℕ
dm_mac j k = 1 + 16 * pick (ltb j k) (k - 1) k

-- "d0 is the XOR of own keys, d1 = d0 + delta"
unfoldable pub d0 : Frame → List ℕ → ℕ → Block
d0 f recs q = others blocks f.i f.n (own f recs q).key

unfoldable pub d1 : Frame → Block → List ℕ → ℕ → Block
d1 f delta recs q = blocks.op (d0 f recs q) delta

-- ---- round 8: "Send BLAKE3 of d0, d1, dm"
unfoldable pub comm_msg : Frame → Block → List ℕ → List ℕ
comm_msg f delta recs = encode STRINGS (λ q. hash (bytes_of (d0 f recs q)) ++ (hash (bytes_of (d1 f delta recs q)) ++ hash (dm f recs q)))

-- the commitments in the message of party k, behind the count
abbrev pub comms_in : (ℕ → List ℕ) → ℕ → List ℕ
comms_in m k = take COMM_ROW (drop 8 (m k))

unfoldable pub comm_rows : Frame → (ℕ → List ℕ) → List ℕ
comm_rows f m = rows f COMM_ROW (comms_in m)

-- what party k committed to for string q, in those rows: to d0, then to d1, then to dm
abbrev pub comms_to : List ℕ → ℕ → ℕ → List ℕ
comms_to comms k q = drop ((k * STRINGS + q) * COMM) comms

-- ---- round 10: "then dm"
unfoldable pub ver_msg : Frame → List ℕ → List ℕ
ver_msg f recs = encode STRINGS (λ q. dm_item (dm f recs q))

-- where the bytes of dm q begin in a message
unfoldable pub dm_at : List ℕ → ℕ → ℕ
dm_at m q = item_at Dms m q + 8

-- dm q of a message "whole": as many bytes as it says to have
unfoldable pub whole_dm : List ℕ → ℕ → List ℕ
whole_dm m q = take (word_at m (item_at Dms m q)) (drop (dm_at m q) m)

-- 2 where it doesn't open "the third share commitment" of its sender
unfoldable pub third_fault : List ℕ → (ℕ → List ℕ) → ℕ → ℕ → ℕ
third_fault comms m q k = pick (same? (hash (whole_dm (m k) q)) (take 32 (drop 64 (comms_to comms k q)))) 0 2

-- "string by string and then party by party"
unfoldable pub third_faults : Frame → List ℕ → (ℕ → List ℕ) → Fault
third_faults f comms m = first_of STRINGS (λ q. by_party f (third_fault comms m q))

-- "dm length comes before its bit": 4, then 1
unfoldable pub dm_fault : Frame → (ℕ → List ℕ) → ℕ → ℕ → ℕ
dm_fault f m q k =
    pick (eqb (word_at (m k) (item_at Dms (m k) q)) (dm_len f.n))
    (pick (leb (get_or (m k) (dm_at (m k) q) 0) 1) 0 1)
    4

-- string by string, party by party
unfoldable pub dm_faults : Frame → (ℕ → List ℕ) → Fault
dm_faults f m = first_of STRINGS (λ q. by_party f (dm_fault f m q))

-- "A mismatch is 2, and all of these come before any dm length or dm bit." When it is made, "as soon as `fashare ver` and its echo are
-- accepted", is engine's (specs/Plain, `echo_check`).
unfoldable pub ver_faults : Frame → List ℕ → (ℕ → List ℕ) → Fault
ver_faults f comms m = or_else (third_faults f comms m) (dm_faults f m)

-- the dms of a message, one after another
abbrev pub dms_of : ℕ → List ℕ → List ℕ
dms_of n m = cat STRINGS (λ q. take (dm_len n) (drop (dm_at m q) m))

unfoldable pub dm_rows : Frame → (ℕ → List ℕ) → List ℕ
dm_rows f m = rows f (STRINGS * dm_len f.n) (λ k. dms_of f.n (m k))

-- where dm q of party k begins in those rows
unfoldable pub dm_row : Frame → ℕ → ℕ → ℕ
dm_row f k q = (k * STRINGS + q) * dm_len f.n

-- ---- round 12: "then d0 or d1 by the XOR of the others' bits"
unfoldable pub others1 : Frame → List ℕ → ℕ → Bool
others1 f dms q = others bits f.i f.n (λ k. odd (get_or dms (dm_row f k q) 0))

unfoldable pub dibi_msg : Frame → Block → List ℕ → List ℕ → List ℕ
dibi_msg f delta recs dms = encode STRINGS (λ q. bytes_of (blocks.op (d0 f recs q) (sel blocks (others1 f dms q) delta)))

-- the XOR of all MACs for k: the own one, and those in the dms of the others but k
unfoldable pub macs_for : Frame → List ℕ → List ℕ → ℕ → ℕ → Block
macs_for f recs dms q k =
    blocks.op ((own f recs q).mac k)
    (others blocks f.i f.n (λ j. sel blocks (neq k j) (block_at dms (dm_row f j q + dm_mac j k))))

-- 2 where what k sent opens neither of its first two commitments, then 9 where it isn't the XOR of the MACs for k
unfoldable pub dibi_fault : Frame → List ℕ → List ℕ → List ℕ → (ℕ → List ℕ) → ℕ → ℕ → ℕ
dibi_fault f recs comms dms m q k =
    let d = block_at (m k) (8 + q * 16) in
    let c = comms_to comms k q in
    pick (same? (hash (bytes_of d)) (take 32 c) || same? (hash (bytes_of d)) (take 32 (drop 32 c)))
    (pick (eq_block (macs_for f recs dms q k) d) 0 9)
    2

unfoldable pub dibi_faults : Frame → List ℕ → List ℕ → List ℕ → (ℕ → List ℕ) → Fault
dibi_faults f recs comms dms m = first_of STRINGS (λ q. by_party f (dibi_fault f recs comms dms m q))
