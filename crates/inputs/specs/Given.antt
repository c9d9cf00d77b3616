-- What opening is given, and what its functions answer of it. The definition of the whole stands in crates/rounds (Opening).
use Rattle.std.specs.Prelude.{Bool, true, ◌&&◌, List, ◌++◌, ◌≡◌, ℕ, ◌+◌, ◌-◌, ◌*◌, ◌≤◌, length, get_or, take, replicate, leb, eqb}
use Rattle.lists.specs.Pick.{pick}
use Rattle.lists.specs.All.{all_of}
use Rattle.algebra.specs.Sum.{neq}
use Rattle.share.specs.Lent.{lent_len, kept_of, records_fault}
use Rattle.batches.specs.Batches.{counts_fault}
use Rattle.plan.specs.Plan.{leaky, bits_count, in_range, bits_len, shares_len, pairs_len, masks_len, out_len, msg_len}
use Rattle.engine.specs.declared.Frame.{Frame}
use Rattle.engine.specs.Area.{off}
use Rattle.rounds.specs.Area.{DELTA, SEED, PAIRS, MASKS, BITS, ALPHA, BETA, COMMS, size_of, work_len, keep}
use Rattle.rounds.specs.Opening.{Args, party, or_fault, lengths_fault}
use Rattle.area.specs.Given.{Ranged}
pub use Rattle.inputs.specs.declared.Lens.{Lens}

abbrev pub args : ℕ → ℕ → List ℕ → List ℕ → List ℕ → List ℕ → List ℕ → List ℕ → List ℕ → List ℕ → List ℕ → List ℕ → Args
args n i counts delta seed pairs bits alpha beta masks work out =
    record {
      n = n;
      i = i;
      counts = counts;
      delta = delta;
      seed = seed;
      pairs = pairs;
      bits = bits;
      alpha = alpha;
      beta = beta;
      masks = masks;
      work = work;
      out = out;
    }

abbrev pub lens : Args → Lens
lens a =
    record {
      delta = length a.delta;
      seed = length a.seed;
      pairs = length a.pairs;
      bits = length a.bits;
      alpha = length a.alpha;
      beta = length a.beta;
      masks = length a.masks;
      work = length a.work;
      out = length a.out;
    }

-- ---- by the numbers and the lengths
-- where nothing is refused of the counts, l is their sum and in range
abbrev pub Counted : Frame → ℕ → Type 0
Counted f counts = counts ≡ 0 → (1 ≤ f.l) × (f.l ≤ 300000)

-- Where n or the counts are refused, the lengths due are 0; then 15, 23, 16 or 3 stands before what they say.
unfoldable pub lists? : Frame → ℕ → ℕ → ℕ → Bool
lists? f bits alpha beta =
    eqb bits (bits_len f.n f.l) && eqb alpha (shares_len f.n f.l) && eqb beta (shares_len f.n f.l)

unfoldable pub buffers? : Frame → Lens → Bool
buffers? f v =
    eqb v.delta 16 && eqb v.seed 32 && eqb v.pairs (pairs_len f.n) && eqb v.masks (masks_len f.n f.l)
    && eqb v.work (pick (in_range f.n f.l) (work_len f) 0) && eqb v.out (out_len f.n f.l 0)

-- ---- by the bytes
-- no byte of row k of the masks is above 1; the own row isn't looked at
unfoldable pub row? : Frame → List ℕ → ℕ → Bool
row? f masks k = pick (neq f.i k) (all_of (leaky f.l) (λ t. leb (get_or masks (k * leaky f.l + t) 0) 1)) true

unfoldable pub masks? : Frame → List ℕ → Bool
masks? f masks = all_of f.n (row? f masks)

-- 1, 22 or 4
unfoldable pub bytes_of : Frame → List ℕ → List ℕ → List ℕ → List ℕ → ℕ
bytes_of f bits alpha beta masks =
    or_fault (records_fault f.n f.i bits (bits_count f.l))
    (or_fault (records_fault f.n f.i alpha f.l)
    (or_fault (records_fault f.n f.i beta f.l)
    (pick (masks? f masks) 0 1)))

-- ---- the work area
-- the first section that is no input
abbrev pub EMPTY : ℕ
EMPTY = COMMS

-- zeros from there on
unfoldable pub cleared : Frame → List ℕ → List ℕ
cleared f w = take (off (size_of f) EMPTY) w ++ replicate (work_len f - off (size_of f) EMPTY) 0

unfoldable pub with_seeds : Frame → List ℕ → List ℕ → List ℕ → List ℕ → List ℕ → List ℕ
with_seeds f delta seed pairs masks w = keep f MASKS masks (keep f PAIRS pairs (keep f SEED seed (keep f DELTA delta w)))

unfoldable pub with_lists : Frame → List ℕ → List ℕ → List ℕ → List ℕ → List ℕ
with_lists f bits alpha beta w =
    keep f BETA (kept_of f.n f.i f.l beta) (keep f ALPHA (kept_of f.n f.i f.l alpha)
    (keep f BITS (kept_of f.n f.i (bits_count f.l) bits) w))

-- delta, the seeds and the masks are as long as their sections
pub record Seeds (f : Frame) (d s p m : ℕ) : Type 0 where
  pub delta : d ≡ size_of f DELTA
  pub seed : s ≡ size_of f SEED
  pub pairs : p ≡ size_of f PAIRS
  pub masks : m ≡ size_of f MASKS

-- the share lists are, as they are lent
pub record Lists (f : Frame) (b x y : ℕ) : Type 0 where
  pub bits : b ≡ bits_count f.l * lent_len f.n
  pub alpha : x ≡ f.l * lent_len f.n
  pub beta : y ≡ f.l * lent_len f.n

-- all is
pub record Due (f : Frame) (v : Lens) : Type 0 where
  pub ranges : Ranged f
  pub seeds : Seeds f v.delta v.seed v.pairs v.masks
  pub lists : Lists f v.bits v.alpha v.beta
  pub work : v.work ≡ work_len f
  pub out : v.out ≡ (f.n - 1) * msg_len f.n f.l 1

-- the first reason, as the code finds it, in a box f whose counts have that fault
unfoldable pub found_at : Frame → ℕ → Lens → List ℕ → List ℕ → List ℕ → List ℕ → ℕ
found_at f counts v bits alpha beta masks =
    or_fault (lengths_fault f counts v.bits v.alpha v.beta (buffers? f v)) (bytes_of f bits alpha beta masks)

abbrev pub found : Args → ℕ
found a = found_at (party a) (counts_fault a.counts) (lens a) a.bits a.alpha a.beta a.masks
