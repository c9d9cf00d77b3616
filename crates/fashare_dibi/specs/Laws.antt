-- Round 12 of `fashare` as the code goes: where dms and commitments lie, and what a check says.
use Rattle.std.specs.Prelude.{◌≡◌, Bool, true, false, ◌||◌, ◌≢◌, ℕ, ◌+◌, ◌-◌, ◌*◌, ◌<◌, ◌≤◌, length, take, drop, ltb}
use Rattle.std.proofs.Math.Path.{refl, sym, ap}
use Rattle.std.proofs.Common.{◌∙◌, mul_assoc, mul-le-mul, arith, drop-drop, ltb-true, ltb-false}
use mathlib.Core.List.{List}
use Rattle.lists.specs.Pick.{pick}
use Rattle.lists.specs.Over.{in-chunks}
use Rattle.lists.specs.Same.{same?, same-comm}
use Rattle.block.specs.declared.Block.{Block}
use Rattle.block.specs.Block.{block_at, bytes_of, eq_block}
use Rattle.blake3.specs.Tree.{hash}
use Rattle.plan.specs.Plan.{dm_len}
use Rattle.engine.specs.declared.Frame.{Frame}
use Rattle.rounds.specs.Area.{BITS, DMS, sizes, size_of, at}
use Rattle.rounds.specs.Fashare as Fashare
use Rattle.rounds.specs.Fashare.{STRINGS, COMM}
use Rattle.area.specs.Given.{Work}
use Rattle.area.specs.GivenLaws.{length_at}
use Rattle.fashare_comm.specs.Laws as Own
use Rattle.fashare_dibi.specs.Given.{DmsKept}

-- the records and dms of a work area
pub given : {f : Frame} {w : List ℕ} → Work f w → (recs dms : List ℕ) → recs ≡ at f BITS w → dms ≡ at f DMS w → DmsKept f recs dms
unfolding size_of sizes
given h recs dms er ed = record { own = Own.given h recs er; kept = ap length ed ∙ length_at h DMS (omega arith) }

-- ---- dms: a row of them for each party
pub dm-most : (n k q : ℕ) → n ≤ 8 → k < n → q < STRINGS → (k * STRINGS + q) * dm_len n ≤ 8 * STRINGS * Own.DM_MOST
dm-most n k q h g e = mul-le-mul {n₂ = 8 * STRINGS} {m₂ = Own.DM_MOST} (omega arith) (Own.dm-most n h)

-- dm q of party k lies within
pub dm-in : (n k q len : ℕ) → k < n → q < STRINGS → len ≡ n * (STRINGS * dm_len n) → (k * STRINGS + q) * dm_len n + dm_len n ≤ len
dm-in n k q len h g e =
    omega (
      arith,
      in-chunks (k * STRINGS + q) (n * STRINGS) (dm_len n) (omega (arith, in-chunks k n STRINGS h)),
      mul_assoc n STRINGS
          (dm_len n),
    )

-- a place in a dm for party k
pub mac-place : (n j k : ℕ) → j < n → k < n → k ≢ j → Fashare.dm_mac j k + 16 ≤ dm_len n
unfolding Fashare.dm_mac dm_len
mac-place n j k hj hk ne = go (ltb j k) refl
  where
    go : (b : Bool) → ltb j k ≡ b → 1 + 16 * pick b (k - 1) k + 16 ≤ 1 + 16 * (n - 1)
    go true e = omega (arith, ltb-true j k e)
    go false e = omega (arith, ltb-false j k e)

-- ---- commitments
-- what the check says, with its three tests at hand
module _ (f : Frame) (recs comms dms : List ℕ) (m : ℕ → List ℕ) (q k : ℕ) where
  abbrev d : Block
  d = block_at (m k) (8 + q * 16)

  abbrev place : ℕ
  place = (k * STRINGS + q) * COMM

  pub fault-is : (a b e : Bool) → a ≡ same? (take 32 (drop place comms)) (hash (bytes_of d))
      → b ≡ same? (take 32 (drop (place + 32) comms)) (hash (bytes_of d))
      → e ≡ eq_block (Fashare.macs_for f recs dms q k) d → Fashare.dibi_fault f recs comms dms m q k ≡ pick (a || b) (pick e 0 9) 2
  unfolding Fashare.dibi_fault
  fault-is a b e ea eb ee =
      let x : same? (hash (bytes_of d)) (take 32 (drop place comms)) ≡ a = same-comm _ _ ∙ sym ea in
      let y : same? (hash (bytes_of d)) (take 32 (drop 32 (drop place comms))) ≡ b =
      ap (λ (s : List ℕ). same? (hash (bytes_of d)) (take 32 s)) (drop-drop 32 place comms) ∙ same-comm _ _ ∙ sym eb in
      rw (x, y, sym ee) refl
