-- The leaky ANDs of an honest run as values: at each position t the shared bits x, y, r and z, whose share at box i is what box i computes
-- with. LeakyTriples says that z is the AND of x and y and keeps the MAC rule; Flaand.antt proves it (`leaky-triple`).
use Rattle.std.specs.Prelude.{◌≡◌, ℕ, ◌+◌, ◌*◌, ◌<◌, get_or}
use Rattle.std.proofs.Math.Path.{refl}
use Rattle.algebra.specs.Group.{odd}
use Rattle.algebra.specs.Share.{Shared, Triple}
use Rattle.block.specs.declared.Block.{Block}
use Rattle.block.specs.Group.{blocks}
use Rattle.block.specs.Trip.{small-xor, small-sel}
use Rattle.share.specs.Record.{record_len}
use Rattle.share.specs.Share.{share_at}
use Rattle.share.specs.ShareLaws.{SmallShare}
use Rattle.share.specs.Parties.{shared_at, share_of}
use Rattle.plan.specs.Plan.{leaky}
use Rattle.rounds.specs.Haand.{x, y, r, z_at}
use Rattle.rounds.specs.Flaand.{z_key}
use Rattle.rounds.specs.Buckets.{z_share}
use Rattle.honest.specs.Script as S
use Rattle.honest.specs.Inputs.{Run, box, Boxes, deltas, bits_of, small-delta, small-bits}

module _ (R : Run) where
  open R use {l, inputs}

  -- x, y and r of position t, in the lists of bits
  abbrev pub x_of : ℕ → Shared Block
  x_of t = bits_of R t

  abbrev pub y_of : ℕ → Shared Block
  y_of t = bits_of R (leaky l + t)

  abbrev pub r_of : ℕ → Shared Block
  r_of t = bits_of R (2 * leaky l + t)

  -- box i's share of them
  pub share-x : (i t : ℕ) → share_of i (x_of t) ≡ x (box R i) (inputs i).bits t
  unfolding share_of shared_at share_at x
  share-x i t = refl

  pub share-y : (i t : ℕ) → share_of i (y_of t) ≡ y (box R i) (inputs i).bits t
  unfolding share_of shared_at share_at y
  share-y i t = refl

module _ (R : Run) where
  open R use {n, l, inputs}

  -- z of position t: the bits that the boxes keep, r's MACs, and r's keys plus delta where the e that the other sent is 1
  unfoldable pub z_of : ℕ → Shared Block
  z_of t = record {
    bit = λ i. z_at (S.z_rows R i) t;
    mac = λ i. (r (box R i) (inputs i).bits t).mac;
    key = λ i j. z_key (box R i) (deltas R i) (inputs i).bits (odd (get_or (S.es R i) (j * leaky l + t) 0)) t j;
  }

  -- box i's share of it
  pub share-z : (i t : ℕ) → share_of i (z_of t) ≡ z_share (box R i) (deltas R i) (inputs i).bits (S.z_rows R i) (S.es R i) t
  unfolding share_of z_of z_share
  share-z i t = refl

  pub small-z : Boxes R → (i : ℕ) → i < n → (t : ℕ) → SmallShare n (share_of i (z_of t))
  unfolding share_of z_of z_key r
  small-z X i li t =
      let s = small-bits R X i li ((2 * leaky l + t) * record_len n) in
      record {
        mac = s.mac;
        key = λ k lk. small-xor _ _ (s.key k lk)
            (small-sel (odd (get_or (S.es R i) (k * leaky l + t) 0)) (deltas R i) (small-delta R X i li));
      }

  -- what rounds 14 to 19 leave
  abbrev pub LeakyTriples : Type 0
  LeakyTriples = (t : ℕ) → t < leaky l → Triple blocks n (deltas R) (x_of R t) (y_of R t) (z_of t)
