-- The records and the rows of a position: where they lie, and that no number wraps.
use Rattle.std.specs.Prelude.{◌≡◌, List, ℕ, ◌+◌, ◌*◌, ◌<◌, ◌≤◌, length}
use Rattle.std.proofs.Math.Nat.{mul-le-mul}
use Rattle.std.proofs.Common.{arith}
use Rattle.lists.specs.Over.{in-record, in-chunks}
use Rattle.share.specs.Layout.{record_len, RECORD_MOST, record-most}
use Rattle.plan.specs.Plan.{InRange, leaky, bits_count}
use Rattle.plan.specs.PlanLaws.{leaky-most}
use Rattle.engine.specs.declared.Frame.{Frame}
use Rattle.rounds.specs.Area.{leaky_len}

-- no product of a record's number with its length wraps
pub at_most : (j n : ℕ) → j ≤ 4500160 → n ≤ 8 → j * record_len n ≤ 4500160 * RECORD_MOST
at_most j n h k = mul-le-mul h (record-most n k)

module _ (f : Frame) (r : InRange f.n f.l) (t : ℕ) (b : t < leaky f.l) where
  pub position-most : t ≤ 1500000
  position-most = omega (arith, leaky-most f.l r.most, b)

  pub record-most-at : (c : ℕ) → c ≤ 2 → (c * leaky f.l + t) * record_len f.n ≤ 4500160 * RECORD_MOST
  record-most-at c h =
      let e : c * leaky f.l ≤ 2 * 1500000 = mul-le-mul h (leaky-most f.l r.most) in
      at_most (c * leaky f.l + t) f.n (omega (arith, e, position-most)) r.eight

  pub row-most : t * leaky_len f.n ≤ 1500000 * 176
  unfolding leaky_len
  row-most = mul-le-mul position-most (let e : 32 + f.n * 18 ≤ 176 = omega (arith, r.eight) in e)

module _ (f : Frame) (recs : List ℕ) (whole : length recs ≡ bits_count f.l * record_len f.n) (t : ℕ) (b : t < leaky f.l) where
  record-in : (j : ℕ) → j < bits_count f.l → j * record_len f.n + record_len f.n ≤ length recs
  record-in j h =
      let e = in-record j (bits_count f.l) (record_len f.n) 0 (record_len f.n) (length recs) h (omega arith) (omega (arith, whole)) in
      omega (arith, e)

  pub x_in_lem : t * record_len f.n + record_len f.n ≤ length recs
  unfolding bits_count
  x_in_lem = record-in t (omega (arith, b))

  pub y-in : (leaky f.l + t) * record_len f.n + record_len f.n ≤ length recs
  unfolding bits_count
  y-in = record-in (leaky f.l + t) (omega (arith, b))

  pub r-in : (2 * leaky f.l + t) * record_len f.n + record_len f.n ≤ length recs
  unfolding bits_count
  r-in = record-in (2 * leaky f.l + t) (omega (arith, b))

-- the entry of party k in the row of a position
pub entry_in : (f : Frame) (rows : List ℕ) → length rows ≡ leaky f.l * leaky_len f.n → (t k : ℕ) → t < leaky f.l → k < f.n
    → t * leaky_len f.n + (32 + k * 18) + 18 ≤ length rows
unfolding leaky_len
entry_in f rows whole t k b h =
    in-record t (leaky f.l) (leaky_len f.n) (32 + k * 18) 18 (length rows) b (omega (arith, in-chunks k f.n 18 h))
    (omega (arith, whole))
