-- The premises of demand 3 in its own words: "inputs that 01 gives opening no reason to refuse" are those that Inputs.antt lists.
use Rattle.std.specs.Prelude.{◌≡◌, refl, Bool, true, ◌≢◌, List, ℕ, suc, ◌+◌, ◌-◌, ◌*◌, ◌<◌, ◌≤◌, length, get_or, leb, eqb}
use Rattle.std.proofs.Common.{sym, ap, ◌∙◌, subst, arith, leb-true, eqb-true}
use Rattle.std.proofs.lemmas.List.{length-replicate}
use Rattle.lists.specs.Pick.{pick, pick-then}
use Rattle.lists.specs.All.{all_of, of-all, and_both}
use Rattle.algebra.specs.Sum.{neq, neq-true}
use Rattle.share.specs.Lent.{lent_len, records_fault}
use Rattle.share.specs.LentLaws.{faults-valid}
use Rattle.plan.specs.Plan.{InRange, leaky, bits_count, msg_len}
use Rattle.engine.specs.declared.Frame.{Frame}
use Rattle.rounds.specs.Area.{work_len}
use Rattle.rounds.specs.OpeningLaws.{neither, passed}
use Rattle.rounds.specs.Opening.{Args, party, lists_due, buffers_due, masks_fault, bytes_fault, reason}
use Rattle.honest.specs.Inputs.{Run, Own, Opened}
use Rattle.honest.specs.Course.{lawful}
use Rattle.honest.specs.Opening.{Given}
use Rattle.honest.proofs.OpeningLaws.{honest-opening}
use Rattle.honest.proofs.Supply.{Lists, zero_inputs, zero_run, zero-boxes}
use Rattle.honest.specs.Premises.{InBytes, Premises}

not-zero : (k : ℕ) → ◌≡◌ {A = ℕ} (suc k) 0 → ⊥
not-zero k e = omega arith

mask-bit : (a : Args) → masks_fault a ≡ 0 → (k t : ℕ) → k < a.n → a.i ≢ k → t < leaky (party a).l
    → get_or a.masks (k * leaky (party a).l + t) 0 ≤ 1
unfolding masks_fault
mask-bit a h k t lk ne lt =
    let row : ℕ → Bool = λ k. all_of (leaky (party a).l) (λ t. leb (get_or a.masks (k * leaky (party a).l + t) 0) 1) in
    let all = (pick-then (all_of a.n (λ k. pick (neq a.i k) (row k) true)) _ _ _ (not-zero 0) h).0 in
    let mine : row k ≡ true =
    ap (λ b. pick b (row k) true) (sym (neq-true a.i k ne))
    ∙ of-all a.n (λ k. pick (neq a.i k) (row k) true) all k lk in
    leb-true _ 1 (of-all (leaky (party a).l) _ mine t lt)

-- the lengths of the lists, and of the buffers
record Long (a : Args) : Type 0 where
  bits : length a.bits ≡ bits_count (party a).l * lent_len a.n
  alpha : length a.alpha ≡ (party a).l * lent_len a.n
  beta : length a.beta ≡ (party a).l * lent_len a.n

lists_of : (a : Args) → lists_due (party a) (length a.bits) (length a.alpha) (length a.beta) ≡ true → Long a
unfolding lists_due
lists_of a h =
    let p = and_both _ (eqb (length a.beta) ((party a).l * lent_len a.n)) h in
    let q = and_both (eqb (length a.bits) (bits_count (party a).l * lent_len a.n)) _ p.0 in
    record { bits = eqb-true _ _ q.0; alpha = eqb-true _ _ q.1; beta = eqb-true _ _ p.1 }

record Buffers (a : Args) : Type 0 where
  delta : length a.delta ≡ 16
  seed : length a.seed ≡ 32
  pairs : length a.pairs ≡ 32 * a.n
  masks : length a.masks ≡ a.n * leaky (party a).l
  work : length a.work ≡ work_len (party a)
  out : length a.out ≡ (a.n - 1) * msg_len a.n (party a).l 1

buffers-of : (a : Args) → buffers_due a ≡ true → Buffers a
unfolding buffers_due
buffers-of a h =
    let o = and_both _ (eqb (length a.out) ((a.n - 1) * msg_len a.n (party a).l 1)) h in
    let w = and_both _ (eqb (length a.work) (work_len (party a))) o.0 in
    let m = and_both _ (eqb (length a.masks) (a.n * leaky (party a).l)) w.0 in
    let p = and_both _ (eqb (length a.pairs) (32 * a.n)) m.0 in
    let s = and_both (eqb (length a.delta) 16) (eqb (length a.seed) 32) p.0 in
    record {
      delta = eqb-true _ _ s.0;
      seed = eqb-true _ _ s.1;
      pairs = eqb-true _ _ p.1;
      masks = eqb-true _ _ m.1;
      work = eqb-true _ _ w.1;
      out = eqb-true _ _ o.1;
    }

-- its inputs
module _ (a : Args) (h : reason a ≡ 0) (y : InBytes a) where
  own-here : Own (party a) a
  unfolding bytes_fault
  own-here =
      let p = passed a h in
      let ls = lists_of a p.numbers.lists in
      let bs = buffers-of a p.numbers.buffers in
      let bits = neither (records_fault a.n a.i a.bits (bits_count (party a).l)) _ p.bytes in
      let alpha = neither (records_fault a.n a.i a.alpha (party a).l) _ bits.1 in
      let beta = neither (records_fault a.n a.i a.beta (party a).l) _ alpha.1 in
      record {
        party = refl;
        counts-taken = p.numbers.none;
        delta-len = bs.delta;
        seed-len = bs.seed;
        pairs_len = bs.pairs;
        bits-len = ls.bits;
        alpha-len = ls.alpha;
        beta-len = ls.beta;
        masks-len = bs.masks;
        delta-bytes = y.delta;
        bits-bytes = y.bits;
        alpha-bytes = y.alpha;
        beta-bytes = y.beta;
        bits-valid = faults-valid a.n a.i a.bits (bits_count (party a).l) bits.0;
        alpha-valid = faults-valid a.n a.i a.alpha (party a).l alpha.0;
        beta-valid = faults-valid a.n a.i a.beta (party a).l beta.0;
        mask-bits = mask-bit a beta.1;
      }

-- ---- the premises are those that the proofs go by
module _ (R : Run) (P : Premises R) where
  open R use {n, inputs}

  pub opened_of : Opened R
  opened_of = record {
    range = record { two = P.two; eight = P.eight; one = P.one; most = P.most };
    own = λ b lb. subst (λ (f : Frame). Own f (inputs b)) (P.party b lb) (own-here (inputs b) (P.fine b lb) (P.bytes b lb));
    bits-mac = P.bits-mac;
    alpha-mac = P.alpha-mac;
    beta-mac = P.beta-mac;
  }

  -- an opening with them, in buffers that opening takes, is box b's own
  pub given-of : (b : ℕ) → b < n → Given R b (inputs b)
  given-of b lb =
      let bs = buffers-of (inputs b) (passed (inputs b) (P.fine b lb)).numbers.buffers in
      record {
        inputs_are = refl;
        work-len = bs.work ∙ ap work_len (P.party b lb);
        out-len = bs.out ∙ ap (λ (f : Frame). (f.n - 1) * msg_len f.n f.l 1) (P.party b lb);
      }

-- ---- for every n, l, r, and counts whose sum is l, there are inputs that meet them: all-zero ones, but for the labels
pub zero-premises : (n l : ℕ) → InRange n l → (counts : ℕ → List ℕ) → Lists n l counts → (r : List ℕ) → Premises (zero_run n l counts r)
zero-premises n l range counts c r =
    let X = zero-boxes n l range counts c r in
    record {
      two = range.two;
      eight = range.eight;
      one = range.one;
      most = range.most;
      party = λ b lb. (X.own b lb).party;
      fine = λ b lb.
          ((honest-opening (zero_run n l counts r) X (lawful n l range)).takes b (zero_inputs n l counts b) lb
          (record { inputs_are = refl; work-len = length-replicate {A = ℕ} _ 0; out-len = length-replicate {A = ℕ} _ 0 })).0;
      bytes = λ b lb. record {
        delta = (X.own b lb).delta-bytes;
        bits = (X.own b lb).bits-bytes;
        alpha = (X.own b lb).alpha-bytes;
        beta = (X.own b lb).beta-bytes;
      };
      bits-mac = X.bits-mac;
      alpha-mac = X.alpha-mac;
      beta-mac = X.beta-mac;
    }
