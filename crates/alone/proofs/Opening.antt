-- An opening that was accepted: what that says of its numbers and lengths, and what the work area holds when round 1 is due.
use Rattle.std.specs.Prelude.{◌≡◌, true, false, ◌&&◌, List, [], ◌∷◌, ℕ, ◌-◌, ◌*◌, ◌<◌, length, ltb, leb}
use Rattle.std.proofs.Math.Path.{refl}
use Rattle.std.proofs.Common.{sym, ap, ◌∙◌, arith}
use Rattle.std.proofs.Math.Bool.{Bool}
use Rattle.std.proofs.lemmas.List.{length-replicate}
use Rattle.std.proofs.Math.Dec.{eqb}
use borrow.Author.Tests.{ltb-true, ltb-false, eqb-true, eq-eqb}
use Rattle.lists.specs.Pick.{pick}
use Rattle.lists.specs.All.{all_of, of-all, and_both}
use Rattle.lists.specs.Bytes.{Bytes}
use Rattle.share.specs.Record.{record_len}
use Rattle.share.specs.Lent.{kept_of}
use Rattle.share.specs.LentLaws.{length-kept, bytes-kept}
use Rattle.batches.specs.Batches.{tally}
use Rattle.batches.specs.BatchLaws as Batches
use Rattle.plan.specs.Plan.{InRange, leaky, bits_count, msg_len}
use Rattle.engine.specs.declared.Frame.{Frame}
use Rattle.engine.specs.Step.{Loan, Accepted, Outcome, outcome}
use Rattle.engine.specs.Area.{to_others, mem, Every, every-mem}
use Rattle.engine.specs.Sheet.{Known, known-lay}
use Rattle.engine.specs.Honest.{due}
use Rattle.rounds.specs.Area.{DELTA, SEED, PAIRS, MASKS, BITS, ALPHA, BETA, ROUNDS_OWN, sizes, size_of, work_len}
use Rattle.rounds.specs.Opening.{Args, party, buffers_due, reason, kept, section, area, spec}
use Rattle.rounds.specs.OpeningLaws.{passed, section-zero}
use Rattle.rounds.specs.Toss as Toss
use Rattle.alone.specs.Holds.{since, store_of, holds}
use Rattle.alone.specs.Formula.{Seen}
use Rattle.alone.specs.Given.{Admissible}
use Rattle.alone.proofs.Rounds.{seen_by}

-- ---- what is accepted
-- the inputs are as long as they should; the lists of shares are so as they are kept, whatever was lent
pub record Lens (a : Args) : Type 0 where
  pub delta-len : length a.delta ≡ 16
  pub seed-len : length a.seed ≡ 32
  pub pairs_len : length a.pairs ≡ 32 * a.n
  pub masks-len : length a.masks ≡ a.n * leaky (party a).l

pub record Taken (a : Args) : Type 0 where
  pub range : InRange a.n (party a).l
  pub own : a.i < a.n
  pub lens : Lens a

module _ (a : Args) where
  abbrev n : ℕ
  n = a.n

  abbrev l : ℕ
  l = (party a).l

  abbrev buffers-say : Type 0
  buffers-say =
      (length a.delta ≡ 16) × ((length a.seed ≡ 32) × ((length a.pairs ≡ 32 * n) × (length a.masks ≡ n * leaky l)))

  buffers-true : buffers_due a ≡ true → buffers-say
  unfolding buffers_due
  buffers-true h =
      let b : Bool = eqb (length a.delta) 16 in
      let c : Bool = eqb (length a.seed) 32 in
      let d : Bool = eqb (length a.pairs) (32 * n) in
      let e : Bool = eqb (length a.masks) (n * leaky l) in
      let f : Bool = eqb (length a.work) (work_len (party a)) in
      let g : Bool = eqb (length a.out) ((n - 1) * msg_len n l 1) in
      let w5 = and_both (b && c && d && e && f) g h in
      let w4 = and_both (b && c && d && e) f w5.0 in
      let w3 = and_both (b && c && d) e w4.0 in
      let w2 = and_both (b && c) d w3.0 in
      let w1 = and_both b c w2.0 in
      (eqb-true _ _ w1.0, (eqb-true _ _ w1.1, (eqb-true _ _ w2.1, eqb-true _ _ w3.1)))

  -- with no reason to refuse
  pub taken : reason a ≡ 0 → Taken a
  taken z =
      let p = (passed a z).numbers in
      let c = Batches.taken a.counts p.none in
      let u = buffers-true p.buffers in
      record {
        range = record { two = p.two; eight = p.eight; one = c.one; most = c.sum };
        own = p.own;
        lens = record {
          delta-len = u.0;
          seed-len = u.1.0;
          pairs_len = u.1.1.0;
          masks-len = u.1.1.1;
        };
      }

-- ---- the work area that it lays out
abbrev inputs : List ℕ
inputs = DELTA ∷ SEED ∷ PAIRS ∷ MASKS ∷ BITS ∷ ALPHA ∷ BETA ∷ []

-- a claim on the sections that hold inputs
pub first-seven : (Q : ℕ → Type 0) → Every Q inputs → (s : ℕ) → s < 7 → Q s
unfolding all_of mem
first-seven Q h s l = every-mem Q inputs h s (of-all 7 (λ s. mem s inputs) refl s l)

section-len : (a : Args) → Lens a → (s : ℕ) → length (section (kept a) s) ≡ size_of (party a) s
unfolding section size_of sizes
section-len a o s = go (ltb s 7) refl
  where
    long : (count : ℕ) (x : List ℕ) → length (kept_of a.n a.i count x) ≡ count * record_len a.n
    long count x = length-kept a.n a.i x count

    go : (b : Bool) → ltb s 7 ≡ b → length (section (kept a) s) ≡ size_of (party a) s
    go true e =
        first-seven (λ s. length (section (kept a) s) ≡ size_of (party a) s) (
          o.delta-len,
          (
            o.seed-len,
            (
              o.pairs_len,
              (
                o.masks-len,
                (
                  long (bits_count (party a).l) a.bits,
                  (long (party a).l a.alpha, (long (party a).l a.beta, tt)),
                ),
              ),
            ),
          ),
        )
        s (ltb-true s 7 e)
    go false e = ap length (section-zero (kept a) s (ltb-false s 7 e)) ∙ length-replicate {A = ℕ} (size_of (party a) s) 0

-- what is ready when round 1 is due is an input
early : all_of ROUNDS_OWN (λ s. pick (leb (since s) (due 1)) (ltb s 7) true) ≡ true
unfolding all_of since
early = refl

pub known-opened : (f : Frame) (val : ℕ → ℕ → List ℕ) (a : Args) → party a ≡ f → Lens a
    → ((s : ℕ) → s < 7 → section (kept a) s ≡ val f.i s)
    → Known f.n f.l (store_of val) (due 1) f.i (area a)
unfolding area
known-opened f val a p o h =
    known-lay f.n f.l (store_of val) (omega arith) (due 1) f.i (section (kept a))
    (λ s ls. section-len a o s ∙ ap (λ (g : Frame). size_of g s) p)
    (λ s ls r. h s (ltb-true s 7 (sym (ap (λ b. pick b (ltb s 7) true) r) ∙ of-all ROUNDS_OWN _ early s ls)))

-- ---- what it leaves
pub spec-takes : (a : Args) (f : Frame) → party a ≡ f → reason a ≡ 0
    → spec a ≡ outcome (record { party = f; due = 1; counts = tally a.counts }) Accepted (area a)
    (to_others f.n f.i (λ r. Toss.comm_msg a.seed f.i))
unfolding spec
spec-takes a f p z =
    let left : Frame → Outcome = λ f.
    outcome (record { party = f; due = 1; counts = tally a.counts }) Accepted (area a)
    (to_others f.n f.i (λ r. Toss.comm_msg a.seed f.i)) in
    rw (eq-eqb (reason a) 0 z) (ap left p)

-- a: what the box was opened with; q, m: what it is lent and sent (Theorem.antt)
module _ (a : Args) (q : ℕ → Loan) (m : ℕ → ℕ → List ℕ) (z : reason a ≡ 0) where
  abbrev f : Frame
  f = party a

  abbrev S : Seen
  S = seen_by (kept a) q m

  pub given : Bytes a.delta → ((k j : ℕ) → Bytes (m k j)) → Admissible S
  given b h = record {
    range = (taken a z).range;
    own = (taken a z).own;
    pairs_len = (taken a z).lens.pairs_len;
    delta-bytes = b;
    bits-bytes = bytes-kept f.n f.i a.bits (bits_count f.l);
    alpha-bytes = bytes-kept f.n f.i a.alpha f.l;
    beta-bytes = bytes-kept f.n f.i a.beta f.l;
    mail-bytes = h;
  }

  -- the inputs are in their sections
  pub opened : Known f.n f.l (store_of (λ i s. holds S s)) (due 1) f.i (area a)
  unfolding section holds
  opened =
      known-opened f (λ i s. holds S s) a refl (taken a z).lens
      (first-seven (λ s. section (kept a) s ≡ holds S s) (refl, (refl, (refl, (refl, (refl, (refl, (refl, tt))))))))
