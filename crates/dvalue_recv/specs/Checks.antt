-- The check of the d values that were told, part by part.
use Rattle.std.specs.Prelude.{◌≡◌, refl, Bool, List, ℕ, ◌+◌, ◌*◌, get_or}
use Rattle.std.proofs.Common.{ap, ap₂, ◌∙◌}
use Rattle.lists.specs.Pick.{pick}
use Rattle.lists.specs.All.{all_of}
use Rattle.algebra.specs.Group.{sel, odd}
use Rattle.block.specs.declared.Block.{Block}
use Rattle.block.specs.Block.{block_at, eq_block}
use Rattle.block.specs.Group.{blocks}
use Rattle.share.specs.Share.{Share, share_at, shares}
use Rattle.engine.specs.declared.Frame.{Frame}
use Rattle.engine.specs.Step.{by_party}
use Rattle.rounds.specs.Buckets.{later, d, bucket_at, d_told, d_mac_told, d_faults}
use Rattle.buckets.specs.Entries.{y_at, d-read}

-- ---- the checks of k's message s: of a later entry, of a bucket, of all
unfoldable pub d_holds : Frame → Block → List ℕ → List ℕ → List ℕ → ℕ → ℕ → ℕ → Bool
d_holds f delta recs perm s k j e =
    eq_block (block_at s (bucket_at f j + 8 + later f + 8 + e * 16))
    (blocks.op ((d f recs perm j e).key k) (sel blocks (odd (get_or s (bucket_at f j + 8 + e) 0)) delta))

unfoldable pub bucket_holds : Frame → Block → List ℕ → List ℕ → List ℕ → ℕ → ℕ → Bool
bucket_holds f delta recs perm s k j = all_of (later f) (d_holds f delta recs perm s k j)

unfoldable pub message_holds : Frame → Block → List ℕ → List ℕ → List ℕ → ℕ → Bool
message_holds f delta recs perm s k = all_of f.l (bucket_holds f delta recs perm s k)

unfoldable pub d_fault : Frame → Block → List ℕ → List ℕ → (ℕ → List ℕ) → ℕ → ℕ
d_fault f delta recs perm m k = pick (message_holds f delta recs perm (m k) k) 0 11

pub faults-by : (f : Frame) (delta : Block) (recs perm : List ℕ) (m : ℕ → List ℕ)
    → d_faults f delta recs perm m ≡ by_party f (d_fault f delta recs perm m)
unfolding d_faults d_fault message_holds bucket_holds d_holds d_told d_mac_told
faults-by f delta recs perm m = refl

-- the check of a later entry, where its records, its bit and its MAC lie
pub d_holds_lem : (f : Frame) (delta : Block) (recs perm s : List ℕ) (k j e y0 y1 bit mac : ℕ) (b : Bool) → y0 ≡ y_at f perm j 0
    → y1 ≡ y_at f perm j (e + 1)
    → bit ≡ bucket_at f j + 8 + e → mac ≡ bucket_at f j + 8 + later f + 8 + e * 16
    → b ≡ eq_block (block_at s mac) (blocks.op ((shares.op (share_at recs y0) (share_at recs y1)).key k)
    (sel blocks (odd (get_or s bit 0)) delta))
    → b ≡ d_holds f delta recs perm s k j e
unfolding d_holds
d_holds_lem f delta recs perm s k j e y0 y1 bit mac b h0 h1 hb hm h =
    let at = bucket_at f j + 8 in
    h
    ∙ ap₂ (λ m (x : Share). eq_block (block_at s m) (blocks.op (x.key k) (sel blocks (odd (get_or s bit 0)) delta))) hm
    (d-read f recs perm j e y0 y1 h0 h1)
    ∙ ap (λ a. eq_block (block_at s (at + later f + 8 + e * 16))
    (blocks.op ((d f recs perm j e).key k) (sel blocks (odd (get_or s a 0)) delta))) hb
