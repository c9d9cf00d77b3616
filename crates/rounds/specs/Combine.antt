-- Combining as a call by itself (document 01, "The call"): "it takes n, i, a count, that many triples of x, y, z records and the d bytes,
-- and writes three records". What it refuses, and what it leaves.
use Rattle.std.specs.Prelude.{◌&&◌, List, ◌++◌, ℕ, ◌+◌, ◌-◌, ◌*◌, length, get_or, ltb, leb, eqb}
use Rattle.lists.specs.Pick.{pick}
use Rattle.lists.specs.All.{all_of}
use Rattle.algebra.specs.Group.{odd}
use Rattle.share.specs.Lent.{lent_len, lent_at, lent_of, records_fault}
use Rattle.engine.specs.Step.{Reply, Accepted, Refused}
use Rattle.rounds.specs.Buckets.{Triple}
use Rattle.rounds.specs.Buckets as Buckets
use Rattle.rounds.specs.Opening.{or_fault}

-- all that combining is given
pub record Args : Type 0 where
  pub n : ℕ
  pub i : ℕ
  pub count : ℕ
  pub triples : List ℕ
  pub d : List ℕ
  pub out : List ℕ

abbrev pub args : ℕ → ℕ → ℕ → List ℕ → List ℕ → List ℕ → Args
args n i count triples d out = record { n = n; i = i; count = count; triples = triples; d = d; out = out }

-- what it answers, and what its output is then
pub record Outcome : Type 0 where
  pub reply : Reply
  pub out : List ℕ

abbrev pub outcome : Reply → List ℕ → Outcome
outcome reply out = record { reply = reply; out = out }

-- ---- what it refuses
-- "then lent bytes": the records in order (1, 22, 4), then the d bytes
unfoldable pub bytes_fault : Args → ℕ
bytes_fault a =
    or_fault (records_fault a.n a.i a.triples (3 * a.count))
    (pick (all_of (a.count - 1) (λ e. leb (get_or a.d e 0) 1)) 0 1)

-- "Combining alone: 15, 5, 16, 6 for records, or d bytes not one below the bucket, 17 for the output, then lent bytes": the first that it
-- has, or 0
unfoldable pub reason : Args → ℕ
reason a =
    pick (leb 2 a.n && leb a.n 8 && ltb a.i a.n)
    (pick (eqb a.count 0) 5
    (pick (leb a.count 5)
    (pick (eqb (length a.triples) (3 * a.count * lent_len a.n) && eqb (length a.d) (a.count - 1))
    (pick (eqb (length a.out) (3 * lent_len a.n)) (bytes_fault a)
    17)
    6)
    16))
    15

-- ---- what it leaves
-- triple t of x1 y1 z1 x2 y2 z2 ..
unfoldable pub triple : ℕ → List ℕ → ℕ → Triple
triple n s t = record {
  tx = lent_at s (3 * t * lent_len n);
  ty = lent_at s ((3 * t + 1) * lent_len n);
  tz = lent_at s ((3 * t + 2) * lent_len n);
}

-- the triples one by one from the left; the first d is the second triple's
unfoldable pub combined : Args → Triple
combined a = Buckets.combine (triple a.n a.triples) (λ e. odd (get_or a.d e 0)) (a.count - 1)

-- party i's records of x, y and z
unfoldable pub records : ℕ → ℕ → Triple → List ℕ
records n i g = lent_of n i g.tx ++ (lent_of n i g.ty ++ lent_of n i g.tz)

unfoldable pub spec : Args → Outcome
spec a =
    pick (eqb (reason a) 0)
    (outcome Accepted (records a.n a.i (combined a)))
    (outcome (Refused (reason a) a.i) a.out)
