-- What a function of rounds 21 and 22 is given of the work area.
use Rattle.std.specs.Prelude.{◌≡◌, List, ℕ, ◌*◌, length}
use Rattle.std.proofs.Common.{ap, ◌∙◌, arith}
use Rattle.share.specs.Record.{record_len}
use Rattle.plan.specs.Plan.{leaky, bits_count}
use Rattle.engine.specs.declared.Frame.{Frame}
use Rattle.rounds.specs.Area.{BITS, PERM, DS, size_of, at}
use Rattle.rounds.specs.Buckets.{later}
use Rattle.area.specs.Given.{Work}
use Rattle.area.specs.GivenLaws.{length_at}
use Rattle.area.specs.Sizes.{size-bits, size-perm, size-ds}

-- the records and the permutation in their whole length
pub record Permuted (f : Frame) (recs perm : List ℕ) : Type 0 where
  pub records : length recs ≡ bits_count f.l * record_len f.n
  pub numbers : length perm ≡ leaky f.l * 4

-- the opened d values
pub size-opened : (f : Frame) → size_of f DS ≡ f.l * later f
unfolding later
size-opened f = size-ds f

-- the two sections, lent
pub lent_is : {f : Frame} {w recs perm : List ℕ} → Work f w → recs ≡ at f BITS w → perm ≡ at f PERM w → Permuted f recs perm
lent_is {f} h r p = record {
  records = ap length r ∙ length_at h BITS (omega arith) ∙ size-bits f;
  numbers = ap length p ∙ length_at h PERM (omega arith) ∙ size-perm f;
}
