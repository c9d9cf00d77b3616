-- The messages of round 14, made from the rows of LEAKY instead of hashing again.
use Rattle.std.specs.Prelude.{◌≡◌, refl, Bool, ◌≢◌, ℕ, ◌+◌, ◌-◌, ◌*◌, ◌<◌, length}
use Rattle.std.proofs.Math.Path.{ap, ap₂}
use Rattle.std.proofs.Common.{◌∙◌, arith}
use borrow.Rule.Slice.PartMut.{put_mid}
use mathlib.Core.List.{List, ◌++◌}
use Rattle.std.proofs.Math.ListN.{get_or}
use Rattle.lists.specs.Over.{cat, two-parts}
use Rattle.lists.specs.Rows.{cat-ext}
use Rattle.lists.specs.Sect.{length-put}
use Rattle.algebra.specs.Group.{addb, odd, odd-num}
use Rattle.block.specs.declared.Block.{Block}
use Rattle.block.specs.Block.{le8}
use Rattle.block.specs.Trip.{length-le8}
use Rattle.block.specs.Group.{blocks}
use Rattle.encode.specs.Encode.{encode, two_bits}
use Rattle.plan.specs.Plan.{leaky}
use Rattle.engine.specs.declared.Frame.{Frame}
use Rattle.engine.specs.Area.{to_others, to_others-ext}
use Rattle.rounds.specs.Area.{leaky_len}
use Rattle.rounds.specs.Haand.{x, y, H, mask, h0, h1, haand_msg, leaky_rows}
use Rattle.rounds.specs.HaandLaws.{first_byte, second-byte}

-- the first and the second bit H of party j at position t
unfoldable pub first_at : Frame → List ℕ → ℕ → ℕ → Bool
first_at f rows j t = odd (get_or rows (t * leaky_len f.n + (32 + j * 18) + 16) 0)

unfoldable pub second_at : Frame → List ℕ → ℕ → ℕ → Bool
second_at f rows j t = odd (get_or rows (t * leaky_len f.n + (32 + j * 18) + 17) 0)

-- the item for party j at position t
unfoldable pub item : Frame → List ℕ → List ℕ → List ℕ → ℕ → ℕ → List ℕ
item f rows masks recs j t =
    two_bits (addb (first_at f rows j t) (mask f masks j t)) (addb (addb (second_at f rows j t) (mask f masks j t)) (y f recs t).bit)

-- the message to party j
unfoldable pub message : Frame → List ℕ → List ℕ → List ℕ → ℕ → List ℕ
message f rows masks recs j = encode (leaky f.l) (item f rows masks recs j)

-- a count, and `size` bytes for each item behind it
pub list_written : (c size : ℕ) (g : ℕ → List ℕ) (l x y : List ℕ) → length l ≡ 8 + c * size → x ≡ le8 c → y ≡ cat c g
    → put_mid 8 (length (put_mid 0 8 l x) - 8) (put_mid 0 8 l x) y ≡ encode c g
unfolding encode
list_written c size g l x y h ex ey =
    let long : length (put_mid 0 8 l x) ≡ 8 + c * size = length-put 0 8 x l (ap length ex ∙ length-le8 c) (omega arith) ∙ h in
    ap (λ m. put_mid 8 m (put_mid 0 8 l x) y) (let e : length (put_mid 0 8 l x) - 8 ≡ c * size = omega (arith, long) in e)
    ∙ two-parts 8 (c * size) (le8 c) (cat c g) x y l h (length-le8 c) ex ey

module _ (f : Frame) (delta : Block) (rows masks recs : List ℕ) (e : rows ≡ leaky_rows f delta recs) where
  item-is : (j t : ℕ) → j < f.n → f.i ≢ j → t < leaky f.l → item f rows masks recs j t ≡ two_bits (h0 f masks recs j t)
      (h1 f delta masks recs j t)
  unfolding item first_at second_at h0 h1
  item-is j t lj ne lt =
      let a : odd (get_or rows (t * leaky_len f.n + (32 + j * 18) + 16) 0) ≡ H ((x f recs t).key j) =
      ap odd (ap (λ (s : List ℕ). get_or s (t * leaky_len f.n + (32 + j * 18) + 16) 0) e ∙ first_byte f delta recs t j _ lt lj ne refl)
      ∙ odd-num _ in
      let b : odd (get_or rows (t * leaky_len f.n + (32 + j * 18) + 17) 0) ≡ H (blocks.op ((x f recs t).key j) delta) =
      ap odd (ap (λ (s : List ℕ). get_or s (t * leaky_len f.n + (32 + j * 18) + 17) 0) e ∙ second-byte f delta recs t j _ lt lj ne refl)
      ∙ odd-num _ in
      ap₂ (λ (a b : Bool). two_bits (addb a (mask f masks j t)) (addb (addb b (mask f masks j t)) (y f recs t).bit)) a b

  -- where the rows are those that `hold` keeps, these are the messages of the definition
  pub sent_is : to_others f.n f.i (message f rows masks recs) ≡ to_others f.n f.i (haand_msg f delta masks recs)
  unfolding message haand_msg encode
  sent_is =
      to_others-ext f.n f.i _ _ (λ k lk ne. ap (λ (s : List ℕ). le8 (leaky f.l) ++ s)
      (cat-ext (leaky f.l) _ _ (λ t lt. item-is k t lk ne lt)))
