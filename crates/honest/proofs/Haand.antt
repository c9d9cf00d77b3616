-- Round 14, `fhaand`, in an honest run: what LEAKY and ZS hold is read back, and the bits z of all boxes sum to the AND of the XORs.
use Rattle.std.specs.Prelude.{◌≡◌, Bool, cond, ◌≢◌, ℕ, ◌+◌, ◌*◌, ◌^◌, ◌<◌, length, get_or, take, drop}
use Rattle.std.proofs.Math.Path.{refl, ap, ap₂}
use Rattle.std.proofs.Common.{sym, ◌∙◌, add-zero, get_or-take, get_or-drop}
use mathlib.Core.List.{List, ◌∷◌}
use native.Mathlib.Omega.{arith}
use Rattle.lists.specs.All.{all_of}
use Rattle.lists.specs.Rows.{cat-ext}
use Rattle.algebra.specs.Group.{bits, addb, sel, odd, num, odd-num}
use Rattle.algebra.specs.Sum.{others, others-ext, sum-ext}
use Rattle.algebra.specs.Half.{half_v, half_z, and-of-xors}
use Rattle.algebra.specs.Share.{total}
use Rattle.block.specs.Block.{bytes_of}
use Rattle.block.specs.Group.{blocks}
use Rattle.share.specs.Share.{share_at}
use Rattle.share.specs.Parties.{shared_at}
use Rattle.message.specs.declared.Kind.TheVariants.{Items}
use Rattle.message.specs.Format.{form_of}
use Rattle.encode.specs.Encode.{encode, two_bits}
use Rattle.encode.specs.Coded.{length-two_bits, coded-two_bits}
use Rattle.encode.specs.RoundTrip.{trip, even-item}
use Rattle.plan.specs.Plan.{kind_of, count_due, msg_len, leaky, bits_count}
use Rattle.plan.specs.PlanLaws.{leaky-most}
use Rattle.engine.specs.declared.Frame.{Frame}
use Rattle.engine.specs.Area.{mem}
use Rattle.engine.specs.Sheet.{stays_test}
use Rattle.engine.specs.Order.{echo_in}
use Rattle.engine.specs.Honest.{before, due, plain_after}
use Rattle.rounds.specs.Area.{LEAKY, ZS, sizes, size_of}
use Rattle.rounds.specs.Table.{judge, kept, held, written}
use Rattle.rounds.specs.Haand.{x, y, H, G, mask, h0, h1, haand_msg, leaky_rows, v, z, z_row, z_rows, z_at}
use Rattle.alone.proofs.HaandLaws.{length-leaky_rows, length-z_rows, z-read}
use Rattle.honest.specs.Script as S
use Rattle.honest.specs.Inputs.{Run, box, Boxes, deltas}
use Rattle.honest.specs.Base.{Receives, Sends, list-form, list_len_lem, Fit, delta-is, masks-at, bits_at, keep_one}
use Rattle.honest.specs.Values.{x_of, y_of, z_of}

-- ---- a message of two bits each
module _ (c : ℕ) (a b : ℕ → Bool) (small : c < 2 ^ 64) (t : ℕ) (lt : t < c) where
  abbrev msg : List ℕ
  msg = encode c (λ t. two_bits (a t) (b t))

  item : take 2 (drop (8 + t * 2) msg) ≡ two_bits (a t) (b t)
  item =
      even-item (Items 2 2) 2 c (λ t. two_bits (a t) (b t)) (λ t l. length-two_bits (a t) (b t)) msg
      (trip (Items 2 2) c (λ t. two_bits (a t) (b t)) small (λ t l. coded-two_bits (a t) (b t))) t lt

  byte : (o : ℕ) → o < 2 → get_or msg (8 + t * 2 + o) 0 ≡ get_or (two_bits (a t) (b t)) o 0
  byte o w =
      sym (get_or-drop (8 + t * 2) msg o 0) ∙ sym (get_or-take 2 (drop (8 + t * 2) msg) o 0 w) ∙ ap (λ (x : List ℕ). get_or x o 0) item

  first_read : odd (get_or (encode c (λ t. two_bits (a t) (b t))) (8 + t * 2) 0) ≡ a t
  unfolding two_bits
  first_read = ap (λ k. odd (get_or msg k 0)) (sym (add-zero (8 + t * 2))) ∙ ap odd (byte 0 (omega arith)) ∙ odd-num (a t)

  second-read : odd (get_or (encode c (λ t. two_bits (a t) (b t))) (8 + t * 2 + 1) 0) ≡ b t
  unfolding two_bits
  second-read = ap odd (byte 1 (omega arith)) ∙ odd-num (b t)

-- ---- what is kept depends on the others' messages alone
module _ (f : Frame) (masks recs : List ℕ) where
  z-ext : (m m' : ℕ → List ℕ) → ((k : ℕ) → k < f.n → f.i ≢ k → m k ≡ m' k) → z_rows f masks recs m ≡ z_rows f masks recs m'
  unfolding z_rows z_row z v
  z-ext m m' h =
      cat-ext (leaky f.l) _ _ (λ t l.
      ap (λ (b : Bool). num (addb b (sel bits (x f recs t).bit (y f recs t).bit)) ∷ bytes_of (others blocks f.i f.n (λ j. G ((x f recs t).mac j))))
      (others-ext bits f.i f.n _ _ (λ j lj ne.
      ap (λ (s : List ℕ). addb (mask f masks j t) (addb (H ((x f recs t).mac j))
      (cond (x f recs t).bit (odd (get_or s (8 + t * 2 + 1) 0)) (odd (get_or s (8 + t * 2) 0))))) (h j lj ne))))

module _ (R : Run) (X : Boxes R) where
  open R use {n, l, inputs}

  pub leaky-small : leaky l < 2 ^ 64
  leaky-small = omega (arith, leaky-most l X.range.most)

  -- ---- the messages
  haand-len : (j r : ℕ) → length (S.sent14 R j r) ≡ msg_len n l 14
  unfolding S.sent14 haand_msg msg_len kind_of count_due
  haand-len j r = list_len_lem n 2 2 (leaky l) _ (λ t i. length-two_bits _ _)

  haand-form : (j r : ℕ) → form_of (kind_of l 14) (count_due n l 14) (S.sent14 R j r) ≡ 0
  unfolding S.sent14 haand_msg kind_of count_due
  haand-form j r = list-form (Items 2 2) (leaky l) _ leaky-small (λ t i. coded-two_bits _ _)

  -- ---- the rounds
  fit-leaky : Fit R LEAKY
  unfolding S.holds S.leaky_rows size_of sizes
  fit-leaky = (omega arith, λ i li. length-leaky_rows (box R i) (deltas R i) (inputs i).bits)

  fit-zs : Fit R ZS
  unfolding S.holds S.z_rows size_of sizes
  fit-zs = (omega arith, λ i li. length-z_rows (box R i) (inputs i).masks (inputs i).bits (λ j. S.sent14 R j i))

  pub send-14 : Sends R 14
  unfolding stays_test all_of mem S.since S.holds S.leaky_rows S.sent S.sent14 held written
  send-14 = record {
    keeps = λ i li w K. keep_one R (before 14) (due 14) i li K LEAKY _ refl fit-leaky
        (ap₂ (leaky_rows (box R i)) (delta-is R K) (bits_at R K));
    writes = λ i r li lr ne w K.
        (λ e. haand_msg (box R i) (delta-is R K e) (masks-at R K e) (bits_at R K e) r);
  }

  pub recv-14 : Receives R 14
  unfolding plain_after echo_in mem stays_test all_of S.since S.holds S.sent S.z_rows judge kept
  recv-14 = record {
    heard = record {
      lens = λ j r lj lr ne. haand-len j r;
      formed = λ i j li lj ne. haand-form j i;
      judged = λ i li w K m M. refl;
    };
    keeps = λ i li w K m M. keep_one R (due 14) (before 15) i li K ZS _ refl fit-zs
        (ap₂ (λ (a b : List ℕ). z_rows (box R i) a b m) (masks-at R K) (bits_at R K)
        ∙ z-ext (box R i) (inputs i).masks (inputs i).bits m _ M);
  }

  -- ---- the value of z
  -- what box i read back of its own rows
  pub z_at_lem : (i t : ℕ) → t < leaky l → z_at (S.z_rows R i) t ≡ z (box R i) (inputs i).masks (inputs i).bits (λ j. S.sent14 R j i) t
  unfolding S.z_rows
  z_at_lem i t lt = z-read (box R i) (inputs i).masks (inputs i).bits (λ j. S.sent14 R j i) t lt

  -- the mask of box i for box j
  abbrev s : ℕ → ℕ → ℕ → Bool
  s t i j = mask (box R i) (inputs i).masks j t

  -- it is the z of the half AND
  z-half : (i t : ℕ) → t < leaky l
      → z (box R i) (inputs i).masks (inputs i).bits (λ j. S.sent14 R j i) t
      ≡ half_z blocks H n (deltas R) (x_of R t).bit (y_of R t).bit (x_of R t).mac (x_of R t).key (s t) i
  unfolding z v half_z half_v x y share_at shared_at S.sent14 haand_msg h0 h1
  z-half i t lt =
      ap (λ (b : Bool). addb b (sel bits ((x_of R t).bit i) ((y_of R t).bit i))) (others-ext bits i n _ _ (λ j lj ne.
      ap₂ (λ (b a : Bool). addb (s t i j) (addb (H ((x_of R t).mac i j)) (cond ((x_of R t).bit i) b a)))
      (second-read (leaky l) _ _ leaky-small t lt) (first_read (leaky l) _ _ leaky-small t lt)))

  pub and-z : (t : ℕ) → t < leaky l → total n (z_of R t) ≡ sel bits (total n (x_of R t)) (total n (y_of R t))
  unfolding z_of bits_count
  and-z t lt =
      sum-ext bits n _ _ (λ i li. z_at_lem i t lt ∙ z-half i t lt)
      ∙ and-of-xors blocks H n (deltas R) (x_of R t).bit (y_of R t).bit (x_of R t).mac (x_of R t).key (s t) (X.bits-mac t (omega arith))
