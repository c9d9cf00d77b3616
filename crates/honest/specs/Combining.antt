-- A bucket of leaky ANDs, combined, seen over all boxes: the combined x and z are shared bits, and each box has its share of them. That
-- with the opened d they are an AND again is ../algebra's `bucket`.
use Rattle.std.specs.Prelude.{◌≡◌, Bool}
use Rattle.std.proofs.Common.{sym, ◌∙◌, arith}
use Rattle.std.proofs.Math.Path.{ap₂}
use Prim.Native.Nat.{ℕ, suc, ◌<◌}
use Rattle.algebra.specs.Group.{sel}
use Rattle.algebra.specs.Sum.{sum, sum-ext}
use Rattle.algebra.specs.Bucket.{bucket_x, bucket_z}
use Rattle.algebra.specs.Share.{Shared, shared}
use Rattle.block.specs.declared.Block.{Block}
use Rattle.block.specs.Group.{blocks}
use Rattle.share.specs.Share.{shares}
use Rattle.share.specs.ShareLaws.{SmallShare, small-share-op, small-share-sel, small-share-sum}
use Rattle.share.specs.Parties.{share_of, share-of-op, share-of-sel, share-of-sum}
use Rattle.rounds.specs.Buckets.{Triple, combine}
use Rattle.rounds.specs.BucketLaws.{combine-x, combine-y, combine-z}

-- box i's shares of triple e
abbrev pub triple_of : (x y z : ℕ → Shared Block) → ℕ → ℕ → Triple
triple_of x y z i e = record { tx = share_of i (x e); ty = share_of i (y e); tz = share_of i (z e) }

-- c + 1 triples; d e was opened for triple e + 1
module _ (x y z : ℕ → Shared Block) (d : ℕ → Bool) (i c : ℕ) where
  share-x : share_of i (bucket_x (shared blocks) x c) ≡ bucket_x shares (λ e. share_of i (x e)) c
  unfolding bucket_x
  share-x = share-of-sum i (suc c) x

  share-z : share_of i (bucket_z (shared blocks) x z d c) ≡ bucket_z shares (λ e. share_of i (x e)) (λ e. share_of i (z e)) d c
  unfolding bucket_z
  share-z =
      let v : ℕ → Shared Block = λ e. sel (shared blocks) (d e) (x (suc e)) in
      share-of-op i (sum (shared blocks) (suc c) z) (sum (shared blocks) c v)
      ∙ ap₂ shares.op (share-of-sum i (suc c) z)
      (share-of-sum i c v
      ∙ sum-ext shares c (λ e. share_of i (v e)) (λ e. sel shares (d e) (share_of i (x (suc e)))) (λ e l. share-of-sel i (d e) (x (suc e))))

  pub combined : combine (triple_of x y z i) d c
      ≡ record {
        tx = share_of i (bucket_x (shared blocks) x c);
        ty = share_of i (y 0);
        tz = share_of i (bucket_z (shared blocks) x z d c);
      }
  combined k = record {
    tx = (combine-x (triple_of x y z i) d c ∙ sym share-x) k;
    ty = combine-y (triple_of x y z i) d c k;
    tz = (combine-z (triple_of x y z i) d c ∙ sym share-z) k;
  }

  module _ (n : ℕ) (small : (e : ℕ) → e < suc c → SmallShare n (share_of i (x e))) where
    pub small-bucket-x : SmallShare n (share_of i (bucket_x (shared blocks) x c))
    unfolding bucket_x
    small-bucket-x = rw share-x (small-share-sum n (suc c) (λ e. share_of i (x e)) small)

    pub small-bucket-z : ((e : ℕ) → e < suc c → SmallShare n (share_of i (z e))) → SmallShare n (share_of i (bucket_z (shared blocks) x z d c))
    unfolding bucket_z
    small-bucket-z h =
        rw share-z
        (small-share-op n _ _ (small-share-sum n (suc c) (λ e. share_of i (z e)) h)
        (small-share-sum n c (λ e. sel shares (d e) (share_of i (x (suc e))))
        (λ e l. small-share-sel n (d e) (share_of i (x (suc e))) (small (suc e) (omega arith)))))
