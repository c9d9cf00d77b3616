-- What is known of one box that was opened with a, and of the messages that it received: it is in range, and all that it
-- goes by is bytes.
use Rattle.std.specs.Prelude.{◌≡◌, ℕ, ◌*◌, ◌<◌, length}
use Rattle.lists.specs.Bytes.{Bytes}
use Rattle.block.specs.Block.{Small}
use Rattle.block.specs.Trip.{small_at}
use Rattle.share.specs.ShareLaws.{SmallShare, small-share-at}
use Rattle.plan.specs.Plan.{InRange}
use Rattle.engine.specs.declared.Frame.{Frame}
use Rattle.rounds.specs.Opening.{party}
use Rattle.rounds.specs.Haand as Haand
use Rattle.rounds.specs.Beaver as Beaver
use Rattle.alone.specs.Formula as F
use Rattle.alone.specs.Formula.{Seen}

pub record Admissible (S : Seen) : Type 0 where
  pub range : InRange S.inputs.n (party S.inputs).l
  pub own : S.inputs.i < S.inputs.n
  pub pairs_len : length S.inputs.pairs ≡ 32 * S.inputs.n
  pub delta-bytes : Bytes S.inputs.delta
  pub bits-bytes : Bytes S.inputs.bits
  pub alpha-bytes : Bytes S.inputs.alpha
  pub beta-bytes : Bytes S.inputs.beta
  pub mail-bytes : (k j : ℕ) → Bytes (S.mail k j)

-- ---- what is read of it fits Blocks
module _ (S : Seen) (I : Admissible S) where
  open S use {inputs as a}

  abbrev f : Frame
  f = party S.inputs

  pub small-delta : Small (F.delta S)
  unfolding F.delta
  small-delta = small_at a.delta I.delta-bytes 0

  pub small-x : (t : ℕ) → SmallShare f.n (F.x S t)
  unfolding F.x Haand.x
  small-x t = small-share-at f.n a.bits _ I.bits-bytes

  pub small_r : (t : ℕ) → SmallShare f.n (F.r S t)
  unfolding F.r Haand.r
  small_r t = small-share-at f.n a.bits _ I.bits-bytes

  pub small-alpha : (j : ℕ) → SmallShare f.n (F.alpha S j)
  unfolding F.alpha Beaver.share
  small-alpha j = small-share-at f.n a.alpha _ I.alpha-bytes

  pub small-beta : (j : ℕ) → SmallShare f.n (F.beta S j)
  unfolding F.beta Beaver.share
  small-beta j = small-share-at f.n a.beta _ I.beta-bytes
