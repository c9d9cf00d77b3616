-- Combining alone by the case it falls into.
use Rattle.std.specs.Prelude.{◌≡◌, ◌&&◌, ◌≢◌, ℕ, suc, ◌-◌, ◌*◌, ◌<◌, ◌≤◌, length, ltb, leb, eqb}
use Rattle.std.proofs.Math.Path.{refl}
use Rattle.std.proofs.Common.{arith}
use borrow.Author.Tests.{eq-eqb, ne_eqb, eqb-true, eqb-false, leb-true, ltb-true}
use Rattle.lists.specs.Pick.{pick-then, pick-else}
use Rattle.lists.specs.All.{and_first, and_second}
use Rattle.share.specs.Lent.{lent_len}
use Rattle.engine.specs.Step.{Accepted, Refused}
use Rattle.rounds.specs.Combine.{Args, outcome, reason, bytes_fault, records, combined, spec}

-- n, i and the count in their ranges
pub record Ranged (a : Args) : Type 0 where
  pub two : 2 ≤ a.n
  pub eight : a.n ≤ 8
  pub party : a.i < a.n
  pub some : a.count ≢ 0
  pub five : a.count ≤ 5

module _ (a : Args) where
  pub spec-refuses : reason a ≢ 0 → spec a ≡ outcome (Refused (reason a) a.i) a.out
  unfolding spec
  spec-refuses h = rw (ne_eqb (reason a) 0 h) refl

  pub spec-accepts : reason a ≡ 0 → spec a ≡ outcome Accepted (records a.n a.i (combined a))
  unfolding spec
  spec-accepts h = rw (eq-eqb (reason a) 0 h) refl

-- what a call that isn't refused was given
pub record Due (a : Args) : Type 0 where
  pub ranged : Ranged a
  pub triples : length a.triples ≡ 3 * a.count * lent_len a.n
  pub d : length a.d ≡ a.count - 1
  pub out : length a.out ≡ 3 * lent_len a.n
  pub bytes : bytes_fault a ≡ 0

not-zero : (n : ℕ) → ◌≡◌ {A = ℕ} (suc n) 0 → ⊥
not-zero n z = omega arith

pub due_of_lem : (a : Args) → reason a ≡ 0 → Due a
unfolding reason
due_of_lem a h =
    let e1 = pick-then (leb 2 a.n && leb a.n 8 && ltb a.i a.n) _ _ _ (not-zero 14) h in
    let e2 = pick-else (eqb a.count 0) _ _ _ (not-zero 4) e1.1 in
    let e3 = pick-then (leb a.count 5) _ _ _ (not-zero 15) e2.1 in
    let e4 = pick-then (eqb (length a.triples) (3 * a.count * lent_len a.n) && eqb (length a.d) (a.count - 1)) _ _ _ (not-zero 5) e3.1 in
    let e5 = pick-then (eqb (length a.out) (3 * lent_len a.n)) _ _ _ (not-zero 16) e4.1 in
    record {
      ranged = record {
        two = leb-true 2 a.n (and_first (leb 2 a.n) (leb a.n 8) (and_first (leb 2 a.n && leb a.n 8) (ltb a.i a.n) e1.0));
        eight = leb-true a.n 8 (and_second (leb 2 a.n) (leb a.n 8) (and_first (leb 2 a.n && leb a.n 8) (ltb a.i a.n) e1.0));
        party = ltb-true a.i a.n (and_second (leb 2 a.n && leb a.n 8) (ltb a.i a.n) e1.0);
        some = eqb-false a.count 0 e2.0;
        five = leb-true a.count 5 e3.0;
      };
      triples = eqb-true _ _ (and_first (eqb (length a.triples) (3 * a.count * lent_len a.n)) (eqb (length a.d) (a.count - 1)) e4.0);
      d = eqb-true _ _ (and_second (eqb (length a.triples) (3 * a.count * lent_len a.n)) (eqb (length a.d) (a.count - 1)) e4.0);
      out = eqb-true _ _ e5.0;
      bytes = e5.1;
    }
