-- Where things lie in a share record (document 01, "The call"): "A share record has 1 + 32n bytes: the bit, then for each party k 16 bytes
-- MAC and 16 bytes key". Since document 02, order 5, that is how a box keeps it; how it is lent and given back: Lent.antt. A head and an entry
-- for each party. This file alone knows how long a head is, and with it a record: what the
-- others may know of it are the laws below.
use Rattle.std.specs.Prelude.{◌≡◌, refl, Bool, List, [], ◌∷◌, ◌++◌, ℕ, ◌+◌, ◌*◌, ◌<◌, ◌≤◌, length, get_or}
use Rattle.std.proofs.Common.{arith}
use Rattle.lists.specs.Bytes.{Bytes, bytes-cons, bytes-nil}
use Rattle.algebra.specs.Group.{num}

-- a party's entry: 16 bytes MAC and 16 bytes key
abbrev pub ENTRY : ℕ
ENTRY = 32

-- the most that a record has: that of eight parties
abbrev pub RECORD_MOST : ℕ
RECORD_MOST = 257

-- "the bit"
unfoldable pub head_of : Bool → List ℕ
head_of b = num b ∷ []

-- "1 + 32n bytes"
unfoldable pub record_len : ℕ → ℕ
record_len n = 1 + 32 * n

-- where party k's MAC and its key start
unfoldable pub mac_off : ℕ → ℕ
mac_off k = 1 + 32 * k

unfoldable pub key_off : ℕ → ℕ
key_off k = 17 + 32 * k

-- ---- what the other files may know
-- the first entry stands behind the head, each other behind the one before, the key behind the MAC, and the record ends with its last entry
pub head-end : (b : Bool) → length (head_of b) ≡ mac_off 0
unfolding head_of mac_off
head-end b = refl

pub mac-next : (k : ℕ) → mac_off (k + 1) ≡ mac_off k + ENTRY
unfolding mac_off
mac-next k = omega arith

pub key-behind : (k : ℕ) → key_off k ≡ mac_off k + 16
unfolding mac_off key_off
key-behind k = omega arith

pub record-ends : (n : ℕ) → record_len n ≡ mac_off n
unfolding record_len mac_off
record-ends n = refl

-- entry k lies behind k others
pub mac-behind : (k : ℕ) → mac_off k ≡ mac_off 0 + k * ENTRY
unfolding mac_off
mac-behind k = omega arith

-- party k's entry is the last of a record among k + 1; it lies in every record that has it, and a record among fewer parties in one among
-- more
pub entry-last : (k : ℕ) → mac_off k + ENTRY ≡ record_len (k + 1)
unfolding record_len mac_off
entry-last k = omega arith

pub entry-within : (n k : ℕ) → k < n → mac_off k + ENTRY ≤ record_len n
unfolding record_len mac_off
entry-within n k h = omega arith

pub record-within : (n k : ℕ) → k < n → record_len (k + 1) ≤ record_len n
unfolding record_len
record-within n k h = omega arith

-- the bit is the first byte
pub record-some : (n : ℕ) → 1 ≤ record_len n
unfolding record_len
record-some n = omega arith

pub bit-first : (b : Bool) (r : List ℕ) → get_or (head_of b ++ r) 0 0 ≡ num b
unfolding head_of
bit-first b r = refl

pub bit-alone : mac_off 0 ≡ 1
unfolding mac_off
bit-alone = refl

pub bytes-head : (b : Bool) → num b < 256 → Bytes (head_of b)
unfolding head_of
bytes-head b h = bytes-cons (num b) [] h bytes-nil

-- among at most eight parties
pub record-most : (n : ℕ) → n ≤ 8 → record_len n ≤ RECORD_MOST
unfolding record_len
record-most n h = omega arith
