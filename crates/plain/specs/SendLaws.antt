-- What is lent, held and written, as the table says it; and what `hold` kept is what `write` asks for.
use Rattle.std.specs.Prelude.{◌≡◌, Bool, true, false, not, ◌&&◌, ◌≢◌, ℕ, ◌-◌, ◌*◌, ◌≤◌, leb}
use Rattle.std.proofs.Math.Path.{refl, sym, ap, ap₂}
use Rattle.std.proofs.Common.{◌∙◌, subst, arith}
use mathlib.Core.List.{List}
use Rattle.std.proofs.Math.ListN.{length}
use borrow.Author.Tests.{le-leb, ne_eqb}
use Rattle.lists.specs.Pick.{pick}
use Rattle.lists.specs.Rows.{chunk}
use Rattle.lists.specs.Over.{length-cat}
use Rattle.lists.specs.All.{all_of, true-false, of-all}
use Rattle.block.specs.declared.Block.{Block}
use Rattle.block.specs.Block.{block_at}
use Rattle.block.specs.Trip.{length-bytes_of}
use Rattle.plan.specs.Plan.{echo?, leaky, msg_len}
use Rattle.plan.specs.PlanLaws.{Rest}
use Rattle.engine.specs.declared.Frame.{Frame}
use Rattle.engine.specs.Step.{Loan}
use Rattle.engine.specs.Order.{echo_in}
use Rattle.engine.specs.Area.{to_others, mem}
use Rattle.rounds.specs.Area.{DELTA, BITS, KEY_SUMS, LEAKY, HS, H_COMMS, leaky_len, sizes, size_of, at}
use Rattle.rounds.specs.HaandLaws.{length-leaky_row}
use Rattle.rounds.specs.FlaandLaws.{length-own_comms, own_row}
use Rattle.rounds.specs.Loops.{length-rows}
use Rattle.rounds.specs.Fabitn as Fabitn
use Rattle.rounds.specs.Fabitn.{r_fits}
use Rattle.rounds.specs.Haand as Haand
use Rattle.rounds.specs.Flaand as Flaand
use Rattle.rounds.specs.Table.{delta, lent, held, written}
use Rattle.area.specs.Given.{Work}
use Rattle.area.specs.GivenLaws.{length_at, at_same, at_other}
use Rattle.area.specs.Sizes.{size-leaky, size-h-comms}
use Rattle.haand.specs.Given.{LeakyKept}
use Rattle.flaand_comm.specs.Given.{CommsKept}
use Rattle.plain.specs.Plain.{plain}
use Rattle.plain.specs.Held.{Held}

-- ---- what is lent with the call
taken : (a : Bool) → ◌≡◌ {A = ℕ} (pick a 0 17) 0 → a ≡ true
taken true h = refl
taken false h = absurd (omega (arith, h))

module _ (f : Frame) (q : Loan) (k : ℕ) (h : lent k f.n f.l q ≡ 0) where
  pub strings-lent : k ≡ 6 → r_fits f.l (length q.r) ≡ true
  unfolding lent
  strings-lent e = taken _ (sym (ap (λ j. lent j f.n f.l q) e) ∙ h)

-- ---- the round with number k is round j
module _ (f : Frame) (q : Loan) (w : List ℕ) (k : ℕ) where
  pub held_at : (j : ℕ) (x : List ℕ) → k ≡ j → x ≡ held j f q w → x ≡ held k f q w
  held_at j x e h = h ∙ sym (ap (λ j. held j f q w) e)

  pub held_none : k ≢ 6 → k ≢ 14 → k ≢ 17 → k ≢ 21 → k ≢ 22 → w ≡ held k f q w
  unfolding held
  held_none a b c d e = rw (ne_eqb k 6 a, ne_eqb k 14 b, ne_eqb k 17 c, ne_eqb k 21 d, ne_eqb k 22 e) refl

  pub wrote_at : (j : ℕ) (x : List ℕ) → k ≡ j → x ≡ to_others f.n f.i (written j f q w) → x ≡ to_others f.n f.i (written k f q w)
  wrote_at j x e h = h ∙ sym (ap (λ j. to_others f.n f.i (written j f q w)) e)

-- the length of its messages
pub due-at : (n l k j : ℕ) (x : List ℕ) → length x ≡ (n - 1) * msg_len n l k → k ≡ j → length x ≡ (n - 1) * msg_len n l j
due-at n l k j x h e = h ∙ ap (λ a. (n - 1) * msg_len n l a) e

-- ---- what is held, as long as its section
length-leaky : (f : Frame) (d : Block) (recs : List ℕ) → length (Haand.leaky_rows f d recs) ≡ size_of f LEAKY
unfolding Haand.leaky_rows
length-leaky f d recs =
    length-cat (leaky f.l) (leaky_len f.n) (Haand.leaky_row f d recs) (λ t b. length-leaky_row f d recs t) ∙ sym (size-leaky f)

module _ {f : Frame} {w : List ℕ} (h : Work f w) where
  comms-long : length (at f H_COMMS w) ≡ f.n * (leaky f.l * 32)
  comms-long = length_at h H_COMMS (omega arith) ∙ size-h-comms f

  length-own : length (Flaand.own_comms f (at f HS w) (at f H_COMMS w)) ≡ size_of f H_COMMS
  length-own = length-own_comms f (at f HS w) (at f H_COMMS w) h.ranges.own comms-long ∙ sym (size-h-comms f)

  -- ---- what `hold` kept is what `write` asks for
  leaky-held : (q : Loan) → LeakyKept f (held 14 f q w)
  unfolding held delta
  leaky-held q =
      let d = delta f w in
      let rows = Haand.leaky_rows f d (at f BITS w) in
      let long : length rows ≡ size_of f LEAKY = length-leaky f d (at f BITS w) in
      at_same h LEAKY rows (omega arith) long
      ∙ ap₂ (λ (y z : List ℕ). Haand.leaky_rows f (block_at y 0) z)
      (sym (at_other h LEAKY rows (omega arith) long DELTA (λ e. omega (arith, e))))
      (sym (at_other h LEAKY rows (omega arith) long BITS (λ e. omega (arith, e))))

  comms-held : (q : Loan) → CommsKept f (held 17 f q w)
  unfolding held
  comms-held q =
      let x = Flaand.own_comms f (at f HS w) (at f H_COMMS w) in
      ap (chunk (leaky f.l * 32) f.i) (at_same h H_COMMS x (omega arith) length-own)
      ∙ own_row f (at f HS w) (at f H_COMMS w) h.ranges.own comms-long
      ∙ ap (Flaand.comms f) (sym (at_other h H_COMMS x (omega arith) length-own HS (λ e. omega (arith, e))))

  -- the sums of `fabitn` are of the bits as they were
  length-sums : (r recs : List ℕ) → length (Fabitn.key_sums f r recs) ≡ size_of f KEY_SUMS
  unfolding Fabitn.key_sums size_of sizes
  length-sums r recs = length-rows f Fabitn.ROW _ (λ k b. length-cat Fabitn.STRINGS 16 _ (λ j l. length-bytes_of _))

  bits-held : (q : Loan) → at f BITS (held 6 f q w) ≡ at f BITS w
  unfolding held
  bits-held q = at_other h KEY_SUMS _ (omega arith) (length-sums q.r (at f BITS w)) BITS (λ e. omega (arith, e))

  pub sums-made : (q : Loan) (k : ℕ) (x : List ℕ) → k ≡ 6 → x ≡ to_others f.n f.i (Fabitn.abit_msg f q.r (at f BITS w))
      → x ≡ to_others f.n f.i (written k f q (held k f q w))
  unfolding written
  sums-made q k x e hx =
      hx ∙ ap (λ (y : List ℕ). to_others f.n f.i (Fabitn.abit_msg f q.r y)) (sym (bits-held q))
      ∙ sym (ap (λ j. to_others f.n f.i (written j f q (held j f q w))) e)

  pub held-for : (k : ℕ) (q : Loan) → Held k f (held k f q w)
  held-for k q = record {
    rows = λ e. subst (λ j. LeakyKept f (held j f q w)) (sym e) (leaky-held q);
    own = λ e. subst (λ j. CommsKept f (held j f q w)) (sym e) (comms-held q);
  }

-- ---- which rounds are plain
-- the arm that is none of them is never taken
pub no-rest : (k : ℕ) → plain k ≡ true → Rest k → ⊥
unfolding plain
no-rest k h r =
    true-false (sym h ∙ rw (
      ne_eqb k 1 r.not1,
      ne_eqb k 3 r.not3,
      ne_eqb k 4 r.not4,
      ne_eqb k 5 r.not5,
      ne_eqb k 6 r.not6,
      ne_eqb k 8 r.not8,
      ne_eqb k 10 r.not10,
      ne_eqb k 12 r.not12,
      ne_eqb k 14 r.not14,
      ne_eqb k 15 r.not15,
      ne_eqb k 17 r.not17,
      ne_eqb k 19 r.not19,
      ne_eqb k 21 r.not21,
      ne_eqb k 22 r.not22,
    ) refl)

-- a round that is no echo is plain
unfoldable test : ℕ → Bool
test k = pick (leb 1 k && not (echo? k)) (plain k) true

tested : all_of 23 test ≡ true
unfolding all_of test plain echo_in mem
tested = refl

pub plain-round : (k : ℕ) → 1 ≤ k → k ≤ 22 → echo? k ≡ false → plain k ≡ true
unfolding test
plain-round k a b e =
    let t : pick (leb 1 k && not (echo? k)) (plain k) true ≡ true = of-all 23 test tested k (omega arith) in rw (le-leb 1 k a, e) at t
