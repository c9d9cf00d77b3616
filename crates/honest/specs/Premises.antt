-- The premises of demand 3 on the inputs.
use Rattle.std.specs.Prelude.{◌≡◌, ℕ, ◌-◌, ◌<◌, ◌≤◌}
use Rattle.lists.specs.Bytes.{Bytes}
use Rattle.algebra.specs.Share.{Good}
use Rattle.block.specs.Group.{blocks}
use Rattle.plan.specs.Plan.{bits_count}
use Rattle.rounds.specs.Opening.{Args, party, reason}
use Rattle.honest.specs.Inputs.{Run, box, deltas, lent_bits, lent_alphas, lent_betas}

-- the lists that a box is opened with hold bytes
pub record InBytes (a : Args) : Type 0 where
  pub delta : Bytes a.delta
  pub bits : Bytes a.bits
  pub alpha : Bytes a.alpha
  pub beta : Bytes a.beta

-- "Let two to eight boxes, numbered from 0, be given their count as n, each its number as i, one l from 1 to 300,000, .. inputs that 01
-- gives opening no reason to refuse, and bit, alpha and beta MACs that each equal the other box's key, plus that box's delta where the bit
-- is 1". Each box's l is the sum of its own counts (02, order 7): the sum is one, the lists need not be.
pub record Premises (R : Run) : Type 0 where
  pub two : 2 ≤ R.n
  pub eight : R.n ≤ 8
  pub one : 1 ≤ R.l
  pub most : R.l ≤ 300000
  pub party : (b : ℕ) → b < R.n → party (R.inputs b) ≡ box R b
  pub fine : (b : ℕ) → b < R.n → reason (R.inputs b) ≡ 0
  pub bytes : (b : ℕ) → b < R.n → InBytes (R.inputs b)
  pub bits-mac : (t : ℕ) → t < bits_count R.l → Good blocks R.n (deltas R) (lent_bits R t)
  pub alpha-mac : (t : ℕ) → t < R.l → Good blocks R.n (deltas R) (lent_alphas R t)
  pub beta-mac : (t : ℕ) → t < R.l → Good blocks R.n (deltas R) (lent_betas R t)

-- ---- what an opening without a reason was given
