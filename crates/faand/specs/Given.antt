-- Where the records of a bucket lie in the work area: within, and read there as in their sections.
use Rattle.std.specs.Prelude.{◌≡◌, refl, Bool, List, ℕ, ◌+◌, ◌*◌, ◌<◌, ◌≤◌, length}
use Rattle.std.proofs.Common.{sym, arith}
use Rattle.std.proofs.Math.Path.{subst}
use Rattle.lists.specs.Over.{in-chunks}
use Rattle.algebra.specs.Group.{sel}
use Rattle.share.specs.Record.{record_len}
use Rattle.share.specs.Share.{Share, share_at, shares}
use Rattle.share.specs.ShareLaws.{Alike, alike-op, alike-agree, alike-get, Agree, agree-op, agree-sel}
use Rattle.engine.specs.declared.Frame.{Frame}
use Rattle.engine.specs.Area.{off, sec}
use Rattle.rounds.specs.Area.{BITS, PERM, TRIPLES, ALPHA, BETA, SECTIONS, size_of, at}
use Rattle.rounds.specs.Haand.{y}
use Rattle.rounds.specs.Beaver as R
use Rattle.area.specs.Given.{Work, Place}
use Rattle.area.specs.GivenLaws.{length_at, section-inside}
use Rattle.area.specs.Sizes.{size-alpha, size-beta, size-triples}
use Rattle.buckets.specs.Given.{lent_is}
use Rattle.buckets.specs.Entries.{y_at, y-within}
use Rattle.faand.specs.declared.Places.{Places}
use Rattle.faand.specs.declared.Records.{Records}

-- d and e of the buckets
abbrev pub D : Frame → List ℕ → ℕ → Share
D f w = R.d f (at f TRIPLES w) (at f ALPHA w)

abbrev pub E : Frame → List ℕ → ℕ → Share
E f w = R.e f (at f BITS w) (at f PERM w) (at f BETA w)

pub record Placed (f : Frame) (p : Places) : Type 0 where
  pub recs : p.recs ≡ off (size_of f) BITS
  pub perm : Place f PERM p.perm.0 p.perm.1
  pub triples : p.triples ≡ off (size_of f) TRIPLES
  pub alpha : p.alpha ≡ off (size_of f) ALPHA
  pub beta : p.beta ≡ off (size_of f) BETA

-- where those of bucket j start
pub record Lies (f : Frame) (w : List ℕ) (j : ℕ) (r : Records) : Type 0 where
  pub a : r.a ≡ off (size_of f) TRIPLES + j * (2 * record_len f.n)
  pub c : r.c ≡ off (size_of f) TRIPLES + (j * (2 * record_len f.n) + record_len f.n)
  pub b : r.b ≡ off (size_of f) BITS + y_at f (at f PERM w) j 0
  pub alpha : r.alpha ≡ off (size_of f) ALPHA + j * record_len f.n
  pub beta : r.beta ≡ off (size_of f) BETA + j * record_len f.n

-- they lie within, and d, e and the result are read there
pub record Reads (f : Frame) (w : List ℕ) (j : ℕ) (r : Records) : Type 0 where
  pub a_in : r.a + record_len f.n ≤ length w
  pub c-in : r.c + record_len f.n ≤ length w
  pub b-in : r.b + record_len f.n ≤ length w
  pub alpha-in : r.alpha + record_len f.n ≤ length w
  pub beta-in : r.beta + record_len f.n ≤ length w
  pub d-read : Alike f.n (shares.op (share_at w r.a) (share_at w r.alpha)) (D f w j)
  pub e-read : Alike f.n (shares.op (share_at w r.b) (share_at w r.beta)) (E f w j)
  pub finish-read : (d e : Bool) → Agree f.n f.i (R.finish (share_at w r.c) (share_at w r.beta) (share_at w r.a) d e)
      (R.finish (R.c f (at f TRIPLES w) j) (R.share f (at f BETA w) j) (R.a f (at f TRIPLES w) j) d e)

-- the record at p is the one at x of section s
record Read (f : Frame) (w : List ℕ) (s x p : ℕ) : Type 0 where
  inside : p + record_len f.n ≤ length w
  alike : Alike f.n (share_at w p) (share_at (at f s w) x)

module _ {f : Frame} {w : List ℕ} (h : Work f w) where
  read : (s x p : ℕ) → s < SECTIONS → p ≡ off (size_of f) s + x → x + record_len f.n ≤ size_of f s → Read f w s x p
  unfolding at sec
  read s x p b e fits = record {
    inside = omega (arith, section-inside h s b);
    alike =
        subst (λ q. Alike f.n (share_at w q) (share_at (at f s w) x)) (sym e) (alike-get f.n w (off (size_of f) s) (size_of f s) x fits);
  }

  pub reads : (j : ℕ) → j < f.l → (r : Records) → Lies f w j r → Reads f w j r
  unfolding R.d R.e R.a R.b R.c R.share R.finish y
  reads j l r p = record {
    a_in = a.inside;
    c-in = c.inside;
    b-in = b.inside;
    alpha-in = alpha.inside;
    beta-in = beta.inside;
    d-read = alike-op f.n _ _ _ _ a.alike alpha.alike;
    e-read = alike-op f.n _ _ _ _ b.alike beta.alike;
    finish-read =
        λ d e. plus (plus (agrees c.alike) (times d (agrees beta.alike))) (times e (agrees a.alike));
  }
    where
      a : Read f w TRIPLES (j * (2 * record_len f.n)) r.a
      a =
          read TRIPLES (j * (2 * record_len f.n)) r.a (omega arith) p.a
          (omega (arith, size-triples f, in-chunks j f.l (2 * record_len f.n) l))

      c : Read f w TRIPLES (j * (2 * record_len f.n) + record_len f.n) r.c
      c =
          read TRIPLES (j * (2 * record_len f.n) + record_len f.n) r.c (omega arith) p.c
          (omega (arith, size-triples f, in-chunks j f.l (2 * record_len f.n) l))

      b : Read f w BITS (y_at f (at f PERM w) j 0) r.b
      b =
          read BITS (y_at f (at f PERM w) j 0) r.b (omega arith) p.b
          (omega (arith, y-within h.ranges (lent_is h refl refl) j 0 (y_at f (at f PERM w) j 0) refl, length_at h BITS (omega arith)))

      alpha : Read f w ALPHA (j * record_len f.n) r.alpha
      alpha =
          read ALPHA (j * record_len f.n) r.alpha (omega arith) p.alpha
          (omega (arith, size-alpha f, in-chunks j f.l (record_len f.n) l))

      beta : Read f w BETA (j * record_len f.n) r.beta
      beta =
          read BETA (j * record_len f.n) r.beta (omega arith) p.beta
          (omega (arith, size-beta f, in-chunks j f.l (record_len f.n) l))

      agrees : {x z : Share} → Alike f.n x z → Agree f.n f.i x z
      agrees {x} {z} v = alike-agree f.n f.i x z v

      plus : {x x' z z' : Share} → Agree f.n f.i x x' → Agree f.n f.i z z'
          → Agree f.n f.i (shares.op x z) (shares.op x' z')
      plus u v = agree-op f.n f.i _ _ _ _ u v

      times : (d : Bool) {x z : Share} → Agree f.n f.i x z → Agree f.n f.i (sel shares d x) (sel shares d z)
      times d v = agree-sel f.n f.i d _ _ v
