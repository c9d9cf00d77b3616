-- Opening (document 01, "The call"): what it refuses, and what it leaves. "A session takes a list of 32-bit counts in l's place; l is their
-- sum and b follows from it." (02, order 7)
use Rattle.std.specs.Prelude.{Bool, true, ◌&&◌, List, ℕ, ◌+◌, ◌-◌, ◌*◌, length, get_or, replicate, ltb, leb, eqb}
use Rattle.lists.specs.Pick.{pick}
use Rattle.lists.specs.All.{all_of}
use Rattle.lists.specs.Over.{cat}
use Rattle.algebra.specs.Sum.{neq}
use Rattle.share.specs.Lent.{lent_len, kept_of, records_fault}
use Rattle.plan.specs.Plan.{leaky, bits_count, msg_len}
use Rattle.batches.specs.Batches.{MOST, total, counts_fault, tally}
use Rattle.engine.specs.declared.Frame.{Frame}
use Rattle.engine.specs.declared.Session.{Session}
use Rattle.engine.specs.Step.{Accepted, Refused, Outcome, outcome}
use Rattle.engine.specs.World.{Opening}
use Rattle.engine.specs.Area.{to_others}
use Rattle.rounds.specs.Area.{DELTA, SEED, PAIRS, MASKS, BITS, ALPHA, BETA, SECTIONS, size_of, work_len}
use Rattle.rounds.specs.Toss as Toss

-- all that opening is given
pub record Args : Type 0 where
  pub n : ℕ
  pub i : ℕ
  pub counts : List ℕ
  pub delta : List ℕ
  pub seed : List ℕ
  pub pairs : List ℕ
  pub bits : List ℕ
  pub alpha : List ℕ
  pub beta : List ℕ
  pub masks : List ℕ
  pub work : List ℕ
  pub out : List ℕ

-- box i of n, with the sum of the counts as l
abbrev pub party : Args → Frame
party a = record { n = a.n; i = a.i; l = total a.counts }

-- ---- what opening refuses
-- the share lists are as long as they should, by their lengths
unfoldable pub lists_due : Frame → ℕ → ℕ → ℕ → Bool
lists_due f bits alpha beta =
    eqb bits (bits_count f.l * lent_len f.n) && eqb alpha (f.l * lent_len f.n) && eqb beta (f.l * lent_len f.n)

-- and all else that is lent
unfoldable pub buffers_due : Args → Bool
buffers_due a =
    eqb (length a.delta) 16 && eqb (length a.seed) 32 && eqb (length a.pairs) (32 * a.n)
    && eqb (length a.masks) (a.n * leaky (party a).l) && eqb (length a.work) (work_len (party a))
    && eqb (length a.out) ((a.n - 1) * msg_len a.n (party a).l 1)

-- "mask bytes 0 or 1 (by party, own neither used nor checked)"
unfoldable pub masks_fault : Args → ℕ
masks_fault a =
    pick (all_of a.n (λ k. pick (neq a.i k)
    (all_of (leaky (party a).l) (λ t. leb (get_or a.masks (k * leaky (party a).l + t) 0) 1)) true)) 0 1

-- the first fault of two lists looked at one after the other
unfoldable pub or_fault : ℕ → ℕ → ℕ
or_fault a b = pick (eqb a 0) b a

-- "then lent bytes in order (1 before 4)", with 22 "per record after 1 and before 4" (document 02, order 5): bits, alpha, beta, masks
unfoldable pub bytes_fault : Args → ℕ
bytes_fault a =
    or_fault (records_fault a.n a.i a.bits (bits_count (party a).l))
    (or_fault (records_fault a.n a.i a.alpha (party a).l)
    (or_fault (records_fault a.n a.i a.beta (party a).l)
    (masks_fault a)))

-- 15, what is refused of the counts, 6, 17: the first that the numbers and the lengths give, or 0; counts: 23, 16 or 3, or 0; rest: whether
-- all but the share lists is as long as it should
unfoldable pub lengths_fault : Frame → ℕ → ℕ → ℕ → ℕ → Bool → ℕ
lengths_fault f counts bits alpha beta rest =
    pick (leb 2 f.n && leb f.n 8 && ltb f.i f.n)
    (or_fault counts
    (pick (lists_due f bits alpha beta)
    (pick rest 0
    17)
    6))
    15

-- "Opening: 15, 16, 3 for l = 0, 6, 17, then lent bytes in order", with 23 "after 15 and before 16" (02, order 7): the first that it has,
-- or 0
unfoldable pub reason : Args → ℕ
reason a =
    or_fault (lengths_fault (party a) (counts_fault a.counts) (length a.bits) (length a.alpha) (length a.beta) (buffers_due a))
    (bytes_fault a)

-- ---- what it leaves
-- the inputs as they are kept: records without their labels
abbrev pub kept : Args → Args
kept a = record {
  n = a.n;
  i = a.i;
  counts = a.counts;
  delta = a.delta;
  seed = a.seed;
  pairs = a.pairs;
  bits = kept_of a.n a.i (bits_count (party a).l) a.bits;
  alpha = kept_of a.n a.i (party a).l a.alpha;
  beta = kept_of a.n a.i (party a).l a.beta;
  masks = a.masks;
  work = a.work;
  out = a.out;
}

-- "It keeps the inputs in the work area"; all else is zero
unfoldable pub section : Args → ℕ → List ℕ
section a s =
    pick (eqb s DELTA) a.delta (pick (eqb s SEED) a.seed (pick (eqb s PAIRS) a.pairs (pick (eqb s MASKS) a.masks
    (pick (eqb s BITS) a.bits (pick (eqb s ALPHA) a.alpha (pick (eqb s BETA) a.beta
    (replicate (size_of (party a) s) 0)))))))

unfoldable pub area : Args → List ℕ
area a = cat SECTIONS (section (kept a))

-- "refused, there is no session": none of which a round is due
abbrev pub no_session : ℕ → ℕ → Session
no_session n i = record { party = record { n = n; i = i; l = 0 }; due = 0; counts = replicate MOST 0 }

-- round 1 is due; the commitment of the seed is written to all
unfoldable pub spec : Args → Outcome
spec a =
    pick (eqb (reason a) 0)
    (outcome (record { party = party a; due = 1; counts = tally a.counts }) Accepted (area a)
    (to_others a.n a.i (λ r. Toss.comm_msg a.seed a.i)))
    (outcome (no_session a.n a.i) (Refused (reason a) a.i) a.work a.out)

abbrev pub opening : Opening Args
opening = record { spec = spec; reason = reason; party = λ a. a.i; work = λ a. a.work; out = λ a. a.out }
