-- What the sections of the work area hold once they are filled, and since when: rows of the formula's values. The last two sections are the
-- echoes' and stand in engine.
use Rattle.std.specs.Prelude.{List, ℕ, replicate, leb, eqb}
use Rattle.lists.specs.Pick.{pick}
use Rattle.lists.specs.Over.{tab, cat}
use Rattle.algebra.specs.Group.{num}
use Rattle.block.specs.Block.{bytes_of}
use Rattle.plan.specs.Plan.{leaky}
use Rattle.engine.specs.Sheet.{Store}
use Rattle.engine.specs.Honest.{before, due}
use Rattle.engine.specs.Alone.{Tale}
use Rattle.engine.specs.declared.Frame.{Frame}
use Rattle.rounds.specs.Area.{DELTA, SEED, PAIRS, MASKS, BITS, ALPHA, BETA, COMMS, JOINT, PAIR_COMMS, PAIRWISE, KEY_SUMS, SHARE_COMMS, DMS}
use Rattle.rounds.specs.Area.{LEAKY, ZS, ES, HS, H_COMMS, PERM, DS, TRIPLES, ROUNDS_OWN, SECTIONS, size_of, rows}
use Rattle.rounds.specs.Opening.{party}
use Rattle.rounds.specs.Toss as Toss
use Rattle.rounds.specs.Fabitn as Fabitn
use Rattle.rounds.specs.Fashare as Fashare
use Rattle.rounds.specs.Haand as Haand
use Rattle.rounds.specs.Flaand as Flaand
use Rattle.rounds.specs.Buckets as Buckets
use Rattle.alone.specs.Formula as F
use Rattle.alone.specs.Formula.{Seen}

-- The moment since which a section holds its value: `before k` for what is kept of the messages of the plain round before k, `due k` for
-- what is kept when the messages of round k are made. What opening keeps is there from the start.
unfoldable pub since : ℕ → ℕ
since s =
    pick (eqb s COMMS) (before 3) (pick (eqb s JOINT) (before 4) (pick (eqb s PAIR_COMMS) (before 5) (pick (eqb s PAIRWISE) (before 6)
    (pick (eqb s KEY_SUMS) (due 6) (pick (eqb s SHARE_COMMS) (before 10) (pick (eqb s DMS) (before 12)
    (pick (eqb s LEAKY) (due 14) (pick (eqb s ZS) (before 15)
    (pick (eqb s ES) (before 17) (pick (eqb s HS) (before 17)
    (pick (eqb s H_COMMS) (before 19) (pick (eqb s PERM) (due 21) (pick (eqb s DS) (before 22) (pick (eqb s TRIPLES) (due 22)
    0))))))))))))))

-- the sections of the rounds, of which box i's section s holds val i s from then on
abbrev pub store_of : (ℕ → ℕ → List ℕ) → Store
store_of val = record { total = SECTIONS; count = ROUNDS_OWN; size = size_of; ready = λ t s. leb (since s) t; val = λ t i s. val i s }

module _ (S : Seen) where
  open S use {inputs as a, strings, mail as m}

  abbrev f : Frame
  f = party S.inputs

  -- own h, one after another
  unfoldable pub h_rows : List ℕ
  h_rows = cat (leaky f.l) (λ t. bytes_of (F.h S t))

  -- the opened d of each bucket
  unfoldable pub d_rows : List ℕ
  d_rows = cat f.l (λ j. tab (Buckets.later f) (λ e. num (F.d_opened S j e)))

  -- a and c of each bucket
  unfoldable pub triple_rows : List ℕ
  triple_rows = cat f.l (λ j. Buckets.triple_row f (F.abc S j))

  -- what section s holds
  unfoldable pub holds : ℕ → List ℕ
  holds s =
      pick (eqb s DELTA) a.delta (pick (eqb s SEED) a.seed (pick (eqb s PAIRS) a.pairs (pick (eqb s MASKS) a.masks
      (pick (eqb s BITS) a.bits (pick (eqb s ALPHA) a.alpha (pick (eqb s BETA) a.beta
      (pick (eqb s COMMS) (Toss.told_rows f (m 1)) (pick (eqb s JOINT) (F.joint_seed S)
      (pick (eqb s PAIR_COMMS) (Toss.told_rows f (m 4)) (pick (eqb s PAIRWISE) (rows f 32 (F.pairwise_seed S))
      (pick (eqb s KEY_SUMS) (Fabitn.key_sums f strings a.bits)
      (pick (eqb s SHARE_COMMS) (Fashare.comm_rows f (m 8)) (pick (eqb s DMS) (Fashare.dm_rows f (m 10))
      (pick (eqb s LEAKY) (Haand.leaky_rows f (F.delta S) a.bits)
      (pick (eqb s ZS) (Haand.z_rows f a.masks a.bits (m 14))
      (pick (eqb s ES) (Flaand.e_rows f (m 15)) (pick (eqb s HS) h_rows (pick (eqb s H_COMMS) (Flaand.comm_rows f (m 17))
      (pick (eqb s PERM) (Buckets.perm_bytes f (F.joint_seed S)) (pick (eqb s DS) d_rows (pick (eqb s TRIPLES) triple_rows
      (replicate (size_of f s) 0))))))))))))))))))))))

  -- all of it
  abbrev pub tale : Tale
  tale = record {
    ready = λ t s. leb (since s) t;
    val = holds;
    sent = F.sent S;
    result = F.result S;
  }
