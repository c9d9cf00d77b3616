-- Where what was kept of a position lies.
use Rattle.std.specs.Prelude.{◌≡◌, List, ℕ, ◌+◌, ◌-◌, ◌*◌, ◌<◌, ◌≤◌, length}
use Rattle.std.proofs.Common.{ap, ap₂, ◌∙◌, arith}
use borrow.Rule.Slice.PartMut.{put_mid}
use Rattle.lists.specs.Over.{cat, in-record, in-chunks, two-parts}
use Rattle.lists.specs.Sect.{length-put}
use Rattle.block.specs.Block.{le8}
use Rattle.block.specs.Trip.{length-le8}
use Rattle.encode.specs.Encode.{encode, bit_block}
use Rattle.share.specs.Record.{record_len}
use Rattle.plan.specs.Plan.{leaky}
use Rattle.engine.specs.declared.Frame.{Frame}
use Rattle.rounds.specs.Area.{BITS, LEAKY, ZS, leaky_len, at}
use Rattle.rounds.specs.Haand.{u_at}
use Rattle.rounds.specs.Flaand.{e}
use Rattle.area.specs.Given.{Work}
use Rattle.area.specs.GivenLaws.{lent_length}
use Rattle.area.specs.Sizes.{size-bits, size-leaky, size-zs}
use Rattle.area.specs.Positions.{x_in_lem, r-in, entry_in}
use Rattle.flaand.specs.Given.{HalfAnds}

module _ {f : Frame} {recs rows zs : List ℕ} (q : HalfAnds f recs rows zs) (t : ℕ) (h : t < leaky f.l) where
  pub x-at-in : t * record_len f.n + record_len f.n ≤ length recs
  x-at-in = x_in_lem f recs q.records t h

  pub r-at-in : (2 * leaky f.l + t) * record_len f.n + record_len f.n ≤ length recs
  r-at-in = r-in f recs q.records t h

  -- byte o of a row of LEAKY, and the 16 from there
  pub row_in : (o : ℕ) → o + 16 ≤ leaky_len f.n → t * leaky_len f.n + o + 16 ≤ length rows
  row_in o w = in-record t (leaky f.l) (leaky_len f.n) o 16 (length rows) h w (omega (arith, q.leakies))

  pub u-in : (k : ℕ) → k < f.n → t * leaky_len f.n + (32 + k * 18) + 16 ≤ length rows
  u-in k w = omega (arith, entry_in f rows q.leakies t k h w)

  pub z_in_lem : t * 17 + 17 ≤ length zs
  z_in_lem = omega (arith, in-chunks t (leaky f.l) 17 h, q.bits)

-- the sections of a work area
pub kept-secs : {f : Frame} {w : List ℕ} → Work f w → (x y z : List ℕ) → x ≡ at f BITS w → y ≡ at f LEAKY w → z ≡ at f ZS w → HalfAnds f
    x y z
kept-secs {f} h x y z ex ey ez = record {
  ranges = h.ranges;
  records = lent_length h BITS _ x (omega arith) (size-bits f) ex;
  leakies = lent_length h LEAKY _ y (omega arith) (size-leaky f) ey;
  bits = lent_length h ZS _ z (omega arith) (size-zs f) ez;
}

-- a function of three sections
pub three-lent : {A : Type 0} (g : List ℕ → List ℕ → List ℕ → A) {x x' y y' z z' : List ℕ} → x ≡ x' → y ≡ y' → z ≡ z' → g x y z ≡ g x' y' z'
three-lent g {x} {x'} {y} {y'} {z} {z'} p q r = ap₂ (λ (a b : List ℕ). g a b z) p q ∙ ap (g x' y') r

-- ---- the messages of round 15
-- e and u of position t, for party k
unfoldable pub item : Frame → List ℕ → List ℕ → List ℕ → ℕ → ℕ → List ℕ
item f recs rows zs k t = bit_block (e f recs zs t) (u_at f rows k t)

-- a count, and `size` bytes for each item behind it
pub list_written : (c size : ℕ) (g : ℕ → List ℕ) (l x y : List ℕ) → length l ≡ 8 + c * size → x ≡ le8 c → y ≡ cat c g
    → put_mid 8 (length (put_mid 0 8 l x) - 8) (put_mid 0 8 l x) y ≡ encode c g
unfolding encode
list_written c size g l x y h ex ey =
    let long : length (put_mid 0 8 l x) ≡ 8 + c * size = length-put 0 8 x l (ap length ex ∙ length-le8 c) (omega arith) ∙ h in
    ap (λ m. put_mid 8 m (put_mid 0 8 l x) y) (let e : length (put_mid 0 8 l x) - 8 ≡ c * size = omega (arith, long) in e)
    ∙ two-parts 8 (c * size) (le8 c) (cat c g) x y l h (length-le8 c) ex ey
