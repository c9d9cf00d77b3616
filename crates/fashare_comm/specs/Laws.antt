-- What the code of `fashare` makes: the records of the strings where they lie, dm behind its bit byte, and the three commitments to a
-- string.
use Rattle.std.specs.Prelude.{◌≡◌, refl, List, [], ◌∷◌, ◌++◌, ℕ, ◌+◌, ◌-◌, ◌*◌, ◌<◌, ◌≤◌, length, drop, set}
use Rattle.std.proofs.Common.{ap, ap₂, ◌∙◌, append_assoc, mul-le-mul, length-append, length-set}
use native.Mathlib.Omega.{arith}
use borrow.Rule.Slice.PartMut.{put_mid}
use Rattle.lists.specs.Over.{cat, length-cat, in-chunks, over-set, over-next, over-full, two-parts}
use Rattle.lists.specs.Sect.{length-put}
use Rattle.algebra.specs.Group.{num}
use Rattle.block.specs.declared.Block.{Block}
use Rattle.block.specs.Block.{bytes_of, le8}
use Rattle.block.specs.Trip.{length-bytes_of, length-le8}
use Rattle.blake3.specs.Tree.{hash}
use Rattle.blake3.specs.ByteLaws.{length-hash}
use Rattle.share.specs.Layout.{RECORD_MOST, record_len, record-within}
use Rattle.share.specs.Record.{bit_at, mac_at}
use Rattle.share.specs.Share.{share_at}
use Rattle.encode.specs.Encode.{encode}
use Rattle.plan.specs.Plan.{leaky, bits_count, dm_len}
use Rattle.plan.specs.PlanLaws.{leaky-most}
use Rattle.engine.specs.declared.Frame.{Frame}
use Rattle.engine.specs.Area.{nth}
use Rattle.rounds.specs.Area.{BITS, sizes, size_of, at}
use Rattle.rounds.specs.Fashare.{STRINGS, COMM, record_at, own, dm, d0, d1}
use Rattle.area.specs.Given.{Work}
use Rattle.area.specs.GivenLaws.{length_at}
use Rattle.area.specs.Positions.{at_most}
use Rattle.fashare_comm.specs.Given.{AllRecords}

-- ---- records
-- those of a work area
pub given : {f : Frame} {w : List ℕ} → Work f w → (recs : List ℕ) → recs ≡ at f BITS w → AllRecords f recs
unfolding size_of sizes
given h recs e = record { range = h.ranges.range; records = ap length e ∙ length_at h BITS (omega arith) }

-- where one begins is no large number
pub record-small : (f : Frame) (q : ℕ) → f.n ≤ 8 → f.l ≤ 300000 → q < STRINGS → record_at f q ≤ 4500160 * RECORD_MOST
record-small f q h k v =
    at_most (3 * leaky f.l + q) f.n (omega (arith, leaky-most f.l k)) h

module _ {f : Frame} {recs : List ℕ} (g : AllRecords f recs) (q at : ℕ) (hq : q < STRINGS) (ea : at ≡ record_at f q) where
  pub record-in : at + record_len f.n ≤ length recs
  unfolding bits_count
  record-in =
      let h : 3 * leaky f.l + q < bits_count f.l = omega arith in
      omega (arith, in-chunks (3 * leaky f.l + q) (bits_count f.l) (record_len f.n) h, g.records, ea)

  -- up to the entry of party k
  pub entry_in : (k : ℕ) → k < f.n → at + record_len (k + 1) ≤ length recs
  entry_in k h = omega (arith, record-in, record-within f.n k h)

-- ---- dm
pub length-dm : (f : Frame) (recs : List ℕ) (q : ℕ) → length (dm f recs q) ≡ dm_len f.n
unfolding dm dm_len
length-dm f recs q =
    let e : length (cat (f.n - 1) (λ p. bytes_of ((own f recs q).mac (nth f.i p)))) ≡ (f.n - 1) * 16 =
    length-cat (f.n - 1) 16 _ (λ p h. length-bytes_of _) in
    omega (arith, e)

-- the bit byte is written, then the MACs
pub dm-written : (f : Frame) (recs : List ℕ) (q at v : ℕ) (l x : List ℕ) → length l ≡ dm_len f.n → at ≡ record_at f q
    → v ≡ num (bit_at recs at)
    → x ≡ cat (f.n - 1) (λ p. bytes_of (mac_at recs at (nth f.i p))) → put_mid 1 (length (set l 0 v) - 1) (set l 0 v) x ≡ dm f recs q
unfolding dm own share_at dm_len
dm-written f recs q at v l x h ea ev ex =
    let w : set l 0 v ≡ (v ∷ []) ++ drop 1 l = over-set [] l 0 v refl (omega arith) in
    over-next (v ∷ []) x x l (set l 0 v) 1 (length (set l 0 v) - 1) (length l) w refl refl (omega (arith, length-set l 0 v))
    ∙ over-full (v ∷ x) l (length l) (omega arith)
    ∙ ap₂ ◌∷◌ (ev ∙ ap (λ a. num (bit_at recs a)) ea) (ex ∙ ap (λ a. cat (f.n - 1) (λ p. bytes_of (mac_at recs a (nth f.i p)))) ea)

-- the longest one, of eight parties
abbrev pub DM_MOST : ℕ
DM_MOST = 113

pub dm-most : (n : ℕ) → n ≤ 8 → dm_len n ≤ DM_MOST
unfolding dm_len
dm-most n h = omega arith

-- where dm q begins, with a length in front of each or without, is no large number
module _ (q n len : ℕ) (h : q < STRINGS) (v : n ≤ 8) (e : len ≡ dm_len n) where
  pub place-most : q * (8 + len) ≤ STRINGS * (8 + DM_MOST)
  place-most = mul-le-mul (let w : q ≤ STRINGS = omega arith in w) (let w : 8 + len ≤ 8 + DM_MOST = omega (arith, dm-most n v) in w)

  pub row-most : q * len ≤ STRINGS * DM_MOST
  row-most = mul-le-mul (let w : q ≤ STRINGS = omega arith in w) (let w : len ≤ DM_MOST = omega (arith, dm-most n v) in w)

-- ---- the three commitments to string q
abbrev pub comm_item : Frame → Block → List ℕ → ℕ → List ℕ
comm_item f delta recs q = hash (bytes_of (d0 f recs q)) ++ (hash (bytes_of (d1 f delta recs q)) ++ hash (dm f recs q))

pub length-comm_item : (f : Frame) (delta : Block) (recs : List ℕ) (q : ℕ) → length (comm_item f delta recs q) ≡ COMM
length-comm_item f delta recs q =
    let a : List ℕ = hash (bytes_of (d0 f recs q)) in
    let b : List ℕ = hash (bytes_of (d1 f delta recs q)) in
    let c : List ℕ = hash (dm f recs q) in
    length-append a (b ++ c) ∙ ap₂ ◌+◌ (length-hash _) (length-append b c ∙ ap₂ ◌+◌ (length-hash _) (length-hash _))

-- three parts of a buffer, written one after another
pub three-written : (a b c l x y z : List ℕ) (k m e : ℕ) → length l ≡ e → length a ≡ k → length b ≡ m - k → k ≤ m → m ≤ e
    → x ≡ a → y ≡ b → z ≡ c → put_mid m (e - m) (put_mid k (m - k) (put_mid 0 (k - 0) l x) y) z ≡ a ++ (b ++ c)
three-written a b c l x y z k m e he ha hb h h' ex ey ez =
    let e1 : put_mid 0 (k - 0) l x ≡ a ++ drop k l = over-next [] a x l l 0 (k - 0) k refl refl ex (omega arith) in
    let e2 : put_mid k (m - k) (put_mid 0 (k - 0) l x) y ≡ (a ++ b) ++ drop m l = over-next a b y l _ k (m - k) m e1 ha ey (omega arith) in
    over-next (a ++ b) c z l _ m (e - m) e e2 (length-append a b ∙ (let q : length a + length b ≡ m = omega arith in q)) ez (omega arith)
    ∙ over-full ((a ++ b) ++ c) l e (omega arith) ∙ append_assoc a b c

-- a count, and behind it as many items of the same length
pub counted : (c size : ℕ) (g : ℕ → List ℕ) (l x y : List ℕ) → length l ≡ 8 + c * size → x ≡ le8 c → y ≡ cat c g
    → put_mid 8 (length (put_mid 0 8 l x) - 8) (put_mid 0 8 l x) y ≡ encode c g
unfolding encode
counted c size g l x y h ex ey =
    let long : length (put_mid 0 8 l x) ≡ 8 + c * size = length-put 0 8 x l (ap length ex ∙ length-le8 c) (omega (arith, h)) ∙ h in
    ap (λ m. put_mid 8 m (put_mid 0 8 l x) y) (let e : length (put_mid 0 8 l x) - 8 ≡ c * size = omega (arith, long) in e)
    ∙ two-parts 8 (c * size) (le8 c) (cat c g) x y l h (length-le8 c) ex ey
