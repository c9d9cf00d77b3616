-- The opened d values: the sum of the own bit and all others', and a row of DS.
use Rattle.std.specs.Prelude.{◌≡◌, refl, Bool, List, ℕ, ◌+◌, length}
use Rattle.std.proofs.Common.{ap, ap₂, ◌∙◌}
use Rattle.lists.specs.Over.{tab, cat, length-tab}
use Rattle.algebra.specs.Group.{bits, addb, num}
use Rattle.algebra.specs.Sum.{others}
use Rattle.share.specs.Share.{Share, share_at, shares}
use Rattle.engine.specs.declared.Frame.{Frame}
use Rattle.rounds.specs.Buckets.{later, d_told, d_opened, ds}
use Rattle.buckets.specs.Entries.{y_at, d-read}

-- the sum of the bits that the others told
unfoldable pub told_sum : Frame → (ℕ → List ℕ) → ℕ → ℕ → Bool
told_sum f m j e = others bits f.i f.n (λ k. d_told f m k j e)

pub opened : (f : Frame) (recs perm : List ℕ) (m : ℕ → List ℕ) (j e y0 y1 : ℕ) (own b : Bool) → y0 ≡ y_at f perm j 0
    → y1 ≡ y_at f perm j (e + 1)
    → own ≡ (shares.op (share_at recs y0) (share_at recs y1)).bit → b ≡ told_sum f m j e → addb own b ≡ d_opened f recs perm m j e
unfolding d_opened told_sum
opened f recs perm m j e y0 y1 own b h0 h1 ho hb =
    ap₂ addb (ho ∙ ap (λ (x : Share). x.bit) (d-read f recs perm j e y0 y1 h0 h1)) hb

-- the row of bucket j
unfoldable pub d_row : Frame → List ℕ → List ℕ → (ℕ → List ℕ) → ℕ → List ℕ
d_row f recs perm m j = tab (later f) (λ e. num (d_opened f recs perm m j e))

pub length-d_row : (f : Frame) (recs perm : List ℕ) (m : ℕ → List ℕ) (j : ℕ) → length (d_row f recs perm m j) ≡ later f
unfolding d_row
length-d_row f recs perm m j = length-tab (later f) _

pub ds-rows : (f : Frame) (recs perm : List ℕ) (m : ℕ → List ℕ) → cat f.l (d_row f recs perm m) ≡ ds f recs perm m
unfolding ds d_row
ds-rows f recs perm m = refl
