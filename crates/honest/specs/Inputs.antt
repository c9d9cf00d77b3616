-- The inputs of demand 3, in document 01's words: what each box is opened with, and what two boxes' inputs have to do with each other;
-- and the same of what the boxes keep of them, records without labels, by which the rounds go.
use Rattle.std.specs.Prelude.{◌≡◌, ◌≢◌, List, ℕ, ◌+◌, ◌*◌, ◌<◌, ◌≤◌, length, get_or}
use Rattle.lists.specs.Over.{tab}
use Rattle.lists.specs.Bytes.{Bytes}
use Rattle.algebra.specs.Group.{numbers}
use Rattle.algebra.specs.Sum.{sum}
use Rattle.algebra.specs.Share.{Shared, Good}
use Rattle.block.specs.declared.Block.{Block}
use Rattle.block.specs.Block.{block_at, Small}
use Rattle.block.specs.Group.{blocks}
use Rattle.block.specs.Trip.{small_at}
use Rattle.share.specs.Record.{record_len}
use Rattle.share.specs.Share.{share_at}
use Rattle.share.specs.ShareLaws.{SmallShare, small-share-at}
use Rattle.share.specs.Lent.{lent_len}
use Rattle.share.specs.LentLaws.{Valid}
use Rattle.share.specs.Parties.{shared_at, lent_shared}
use Rattle.batches.specs.Batches.{counts_fault}
use Rattle.plan.specs.Plan.{InRange, leaky, bits_count}
use Rattle.engine.specs.declared.Frame.{Frame}
use Rattle.engine.specs.Step.{frame}
use Rattle.rounds.specs.Opening.{Args, party}
use Rattle.rounds.specs.Buckets.{order}

-- What demand 3 speaks of: n boxes with one l, box b opened with `inputs b`, all lent the same r strings. `strings` is what they hold as r
-- in either form, all strings or a seed: a box may be lent the one or the other (Opening.antt, Agree).
pub record Run : Type 0 where
  pub n : ℕ
  pub l : ℕ
  pub inputs : ℕ → Args
  pub strings : List ℕ

-- ---- as they are lent
-- What the box f is opened with, work area and outgoing buffer aside: counts whose sum is its l, exact lengths, bytes, bits 0 or 1, labels as
-- due, own entries zero. Of the seeds and of the delta nothing is asked, and nothing of the masks for the box itself.
pub record Own (f : Frame) (a : Args) : Type 0 where
  pub party : party a ≡ f
  pub counts-taken : counts_fault a.counts ≡ 0
  pub delta-len : length a.delta ≡ 16
  pub seed-len : length a.seed ≡ 32
  pub pairs_len : length a.pairs ≡ 32 * f.n
  pub bits-len : length a.bits ≡ bits_count f.l * lent_len f.n
  pub alpha-len : length a.alpha ≡ f.l * lent_len f.n
  pub beta-len : length a.beta ≡ f.l * lent_len f.n
  pub masks-len : length a.masks ≡ f.n * leaky f.l
  pub delta-bytes : Bytes a.delta
  pub bits-bytes : Bytes a.bits
  pub alpha-bytes : Bytes a.alpha
  pub beta-bytes : Bytes a.beta
  pub bits-valid : (t : ℕ) → t < bits_count f.l → Valid f.n f.i a.bits (t * lent_len f.n)
  pub alpha-valid : (t : ℕ) → t < f.l → Valid f.n f.i a.alpha (t * lent_len f.n)
  pub beta-valid : (t : ℕ) → t < f.l → Valid f.n f.i a.beta (t * lent_len f.n)
  pub mask-bits : (k t : ℕ) → k < f.n → f.i ≢ k → t < leaky f.l → get_or a.masks (k * leaky f.l + t) 0 ≤ 1

module _ (R : Run) where
  open R use {n, l, inputs}

  -- box b of the run
  abbrev pub box : ℕ → Frame
  box b = frame n l b

  -- the deltas that the boxes are opened with
  abbrev pub deltas : ℕ → Block
  deltas b = block_at (inputs b).delta 0

  -- record t of all boxes' lists, as one shared bit
  abbrev pub lent_bits : ℕ → Shared Block
  lent_bits t = lent_shared (λ b. (inputs b).bits) (t * lent_len n)

  abbrev pub lent_alphas : ℕ → Shared Block
  lent_alphas t = lent_shared (λ b. (inputs b).alpha) (t * lent_len n)

  abbrev pub lent_betas : ℕ → Shared Block
  lent_betas t = lent_shared (λ b. (inputs b).beta) (t * lent_len n)

  -- "The MAC rule between boxes j and k, both ways and at each position: j's MAC for k equals k's key for j, plus the delta k was opened
  -- with where j's bit is 1."
  pub record Opened : Type 0 where
    pub range : InRange n l
    pub own : (b : ℕ) → b < n → Own (box b) (inputs b)
    pub bits-mac : (t : ℕ) → t < bits_count l → Good blocks n deltas (lent_bits t)
    pub alpha-mac : (t : ℕ) → t < l → Good blocks n deltas (lent_alphas t)
    pub beta-mac : (t : ℕ) → t < l → Good blocks n deltas (lent_betas t)

-- ---- as they are kept
-- what the rounds go by among n boxes, of the inputs that a box keeps
pub record Kept (n : ℕ) (a : Args) : Type 0 where
  pub seed-len : length a.seed ≡ 32
  pub pairs_len : length a.pairs ≡ 32 * n
  pub delta-bytes : Bytes a.delta
  pub bits-bytes : Bytes a.bits
  pub alpha-bytes : Bytes a.alpha
  pub beta-bytes : Bytes a.beta

-- of a run whose inputs are the kept ones (Opening.antt, played)
module _ (R : Run) where
  open R use {n, l, inputs}

  abbrev pub bits_of : ℕ → Shared Block
  bits_of t = shared_at (λ b. (inputs b).bits) (t * record_len n)

  abbrev pub alphas_of : ℕ → Shared Block
  alphas_of t = shared_at (λ b. (inputs b).alpha) (t * record_len n)

  abbrev pub betas_of : ℕ → Shared Block
  betas_of t = shared_at (λ b. (inputs b).beta) (t * record_len n)

  pub record Boxes : Type 0 where
    pub range : InRange n l
    pub own : (b : ℕ) → b < n → Kept n (inputs b)
    pub bits-mac : (t : ℕ) → t < bits_count l → Good blocks n (deltas R) (bits_of t)
    pub alpha-mac : (t : ℕ) → t < l → Good blocks n (deltas R) (alphas_of t)
    pub beta-mac : (t : ℕ) → t < l → Good blocks n (deltas R) (betas_of t)

  -- "The joint seed is the XOR of all seeds"
  unfoldable pub joint_of : List ℕ
  joint_of = tab 32 (λ t. sum numbers n (λ b. get_or (inputs b).seed t 0))

  -- "the permutation from the joint seed" (02, order 6)
  abbrev pub order_of : List ℕ
  order_of = order (box R 0) joint_of

-- ---- what is read of them fits a Block
module _ (R : Run) (X : Boxes R) (b : ℕ) (lb : b < R.n) where
  open R use {n, inputs}

  pub small-delta : Small (deltas R b)
  small-delta = small_at (inputs b).delta (X.own b lb).delta-bytes 0

  pub small-bits : (at : ℕ) → SmallShare n (share_at (inputs b).bits at)
  small-bits at = small-share-at n (inputs b).bits at (X.own b lb).bits-bytes

  pub small-alpha : (at : ℕ) → SmallShare n (share_at (inputs b).alpha at)
  small-alpha at = small-share-at n (inputs b).alpha at (X.own b lb).alpha-bytes

  pub small-beta : (at : ℕ) → SmallShare n (share_at (inputs b).beta at)
  small-beta at = small-share-at n (inputs b).beta at (X.own b lb).beta-bytes
