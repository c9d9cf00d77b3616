-- The d values of round 21 as a message has them: lengths, and where a bucket lies.
use Rattle.std.specs.Prelude.{◌≡◌, refl, ◌≢◌, Bool, List, [], ◌∷◌, ℕ, ◌+◌, ◌-◌, ◌*◌, ◌<◌, ◌≤◌, length}
use Rattle.std.proofs.Common.{sym, ap, ◌∙◌, mul-le-mul, arith, length-append}
use Rattle.lists.specs.Over.{in-chunks}
use Rattle.algebra.specs.Group.{num}
use Rattle.block.specs.declared.Block.{Block}
use Rattle.block.specs.Block.{bytes_of}
use Rattle.block.specs.Trip.{length-bytes_of}
use Rattle.message.specs.declared.Kind.TheVariants.{Dvalues}
use Rattle.message.proofs.FormLaws.{buckets}
use Rattle.encode.specs.Encode.{encode, dvalue_item}
use Rattle.encode.specs.Coded.{length-encode}
use Rattle.plan.specs.Plan.{bucket_size, msg_len, list_len, count_due, kind_of}
use Rattle.engine.specs.declared.Frame.{Frame}
use Rattle.rounds.specs.declared.Mail.{Mail}
use Rattle.rounds.specs.Mail.{letter}
use Rattle.rounds.specs.EchoLaws.{Received}
use Rattle.rounds.specs.Buckets.{later, dvalue_msg, bucket_at}
use Rattle.buckets.specs.Entries.{later-most}

-- ---- lengths
-- the bytes of a bucket, and of a message
abbrev pub bucket_len : Frame → ℕ
bucket_len f = 16 + later f * 17

abbrev pub told : Frame → ℕ
told f = 8 + f.l * bucket_len f

pub length-item : (c : ℕ) (b : ℕ → Bool) (x : ℕ → Block) → length (dvalue_item c b x) ≡ 16 + c * 17
unfolding dvalue_item
length-item c b x =
    length-append (encode c (λ k. num (b k) ∷ [])) (encode c (λ k. bytes_of (x k)))
    ∙ (omega (
      arith,
      length-encode 1 c (λ k. num (b k) ∷ []) (λ t h. refl),
      length-encode 16 c (λ k. bytes_of (x k))
          (λ t h. length-bytes_of (x t)),
    ))

pub length-message : (f : Frame) (recs perm : List ℕ) (k : ℕ) → length (dvalue_msg f recs perm k) ≡ told f
unfolding dvalue_msg
length-message f recs perm k = length-encode (bucket_len f) f.l _ (λ j h. length-item (later f) _ _)

pub told_is : (f : Frame) → msg_len f.n f.l 21 ≡ told f
unfolding msg_len list_len count_due kind_of later
told_is f =
    let due = bucket_size f.l - 1 in
    ap (λ s. 8 + f.l * s) (let e : 8 + due + (8 + 16 * due) ≡ 16 + due * 17 = omega arith in e)

-- a message that was received has them all
pub told-long : {f : Frame} {incoming : List ℕ} {mail : Mail} → Received (Dvalues (bucket_size f.l - 1)) f.l f incoming mail
    → (k : ℕ) → k < f.n → k ≢ f.i → told f ≤ length (letter incoming mail k)
unfolding later
told-long {f} {incoming} {mail} r k h ne =
    (buckets (bucket_size f.l - 1) f.l (letter incoming mail k) (r.formed-is k h (λ e. ne (sym e)))).fits

-- ---- where a bucket lies in a message
pub bucket-is : (f : Frame) (j : ℕ) → bucket_at f j ≡ 8 + j * bucket_len f
unfolding bucket_at
bucket-is f j = ap (λ s. 8 + j * s) (let e : 8 + later f + (8 + 16 * later f) ≡ bucket_len f = omega arith in e)

-- no place in a message wraps
pub places-most : (f : Frame) (j : ℕ) → j < f.l → f.l ≤ 300000 → j * bucket_len f ≤ 300000 * 84
places-most f j h m =
    mul-le-mul (let e : j ≤ 300000 = omega arith in e) (let e : bucket_len f ≤ 84 = omega (arith, later-most f) in e)

pub bucket-in : (f : Frame) (s : List ℕ) → told f ≤ length s → (j : ℕ) → j < f.l → bucket_at f j + bucket_len f ≤ length s
bucket-in f s long j h = omega (arith, bucket-is f j, in-chunks j f.l (bucket_len f) h)
