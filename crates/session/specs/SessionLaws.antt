-- The parts of a round call against the definition, case by case.
use Rattle.std.specs.Prelude.{◌≡◌, Bool, not, ◌&&◌, ◌≢◌, List, ℕ, suc, ◌+◌, ◌-◌, ◌*◌, ◌<◌, ◌≤◌, length, replicate, eqb}
use Rattle.std.proofs.Math.Path.{refl, ap}
use Rattle.std.proofs.Common.{sym, ◌∙◌, subst, add-one}
use Rattle.std.proofs.Math.Bool.{true, false}
use native.Mathlib.Omega.{arith}
use borrow.Author.Tests.{lt-leb, eq-eqb, ne_eqb}
use Rattle.lists.specs.Pick.{pick}
use Rattle.lists.specs.All.{all_of, of-all, true-false}
use Rattle.share.specs.Lent.{lent_len}
use Rattle.message.specs.declared.Kind.TheVariants.{Options, Items}
use Rattle.plan.specs.Plan.{echo?, next_round, kind_of, count_due, msg_len}
use Rattle.plan.specs.PlanLaws.{no-echo}
use Rattle.engine.specs.declared.Frame.{Frame}
use Rattle.engine.specs.Step.{none?, Loan, mask}
use Rattle.engine.specs.Order.{echo_in, next_in}
use Rattle.engine.specs.Plain.{to_echo, len_of, out_len_of, lent_of, check_of, echo_check, for_echo, made, keep_of, write_of, digests}
use Rattle.engine.specs.Area.{to_others, mem}
use Rattle.rounds.specs.declared.Mail.{Mail}
use Rattle.rounds.specs.Echo.{echo, echo_msg}
use Rattle.rounds.specs.EchoLaws.{Received}
use Rattle.rounds.specs.Table.{table}
use Rattle.rounds.specs.Table as Table
use Rattle.admit.proofs.AdmitLaws.{echo-kind, echo-count}
use Rattle.plain.specs.MaskLaws as Masks

-- ---- the order of the rounds, in plan's words
pub to-echo-is : (n k : ℕ) (b : Bool) → b ≡ echo? (k + 1) → (not (eqb n 2) && b) ≡ to_echo table (eqb n 2) k
unfolding to_echo
to-echo-is n k b e = ap (λ x. not (eqb n 2) && x) (e ∙ ap echo? (add-one k))

-- ---- what follows a call that writes no echo is no echo
-- no two echoes stand together
single : (k : ℕ) → k ≤ 22 → echo? k ≡ true → echo? (suc k) ≡ false
unfolding all_of echo_in mem
single k h e =
    let t : pick (echo? k) (not (echo? (suc k))) true ≡ true =
    of-all 23 (λ k. pick (echo? k) (not (echo? (suc k))) true) refl k (omega arith) in
    not-true (echo? (suc k)) (rw e at t)
  where
    not-true : (b : Bool) → not b ≡ true → b ≡ false
    not-true true q = sym q
    not-true false q = refl

module _ (n k : ℕ) (h : k < 22) where
  pub next-plain : to_echo table (eqb n 2) k ≡ false → echo? (next_round n k) ≡ false
  unfolding to_echo next_in
  next-plain e = rw (lt-leb 22 k h) (go (eqb n 2) (echo? (suc k)) refl e)
    where
      go : (two b : Bool) → echo? (suc k) ≡ b → (not two && b) ≡ false → echo? (pick (two && b) (suc (suc k)) (suc k)) ≡ false
      go true true q z = single (suc k) (omega arith) q
      go true false q z = q
      go false true q z = absurd (true-false z)
      go false false q z = q

  pub next_low : 1 ≤ next_round n k
  unfolding next_in
  next_low = rw (lt-leb 22 k h) (go (eqb n 2 && echo? (suc k)))
    where
      go : (b : Bool) → 1 ≤ pick b (suc (suc k)) (suc k)
      go true = omega arith
      go false = omega arith

  pub next-high : next_round n k ≤ 22
  unfolding next_in
  next-high = rw (lt-leb 22 k h) (go (eqb n 2) (echo? (suc k)) refl)
    where
      go : (two b : Bool) → echo? (suc k) ≡ b → pick (two && b) (suc (suc k)) (suc k) ≤ 22
      go true true q =
          let ne : k ≢ 21 = λ z. true-false (sym q ∙ ap (λ j. echo? (suc j)) z ∙ no-echo 22 (omega arith)) in
          omega (arith, ne)
      go true false q = omega arith
      go false b q = omega arith

-- ---- lengths and what is lent
module _ (f : Frame) (k : ℕ) where
  pub out-last : k ≡ 22 → out_len_of table k f ≡ f.l * lent_len f.n
  unfolding out_len_of
  out-last e = rw (eq-eqb k 22 e) refl

  pub out-echo : k < 22 → to_echo table (eqb f.n 2) k ≡ true → out_len_of table k f ≡ (f.n - 1) * msg_len f.n 1 2
  unfolding out_len_of len_of next_in to_echo echo
  out-echo h e =
      let q = go (eqb f.n 2) (echo? (suc k)) e in
      rw (ne_eqb k 22 (omega arith), lt-leb 22 k h, q.0, q.1) refl
    where
      go : (two b : Bool) → (not two && b) ≡ true → (two ≡ false) × (b ≡ true)
      go true b z = absurd (true-false (sym z))
      go false b z = (refl, z)

  pub out-made : k < 22 → to_echo table (eqb f.n 2) k ≡ false
      → out_len_of table k f ≡ (f.n - 1) * msg_len f.n f.l (next_round f.n k)
  unfolding out_len_of len_of
  out-made h e = rw (ne_eqb k 22 (omega arith), next-plain f.n k h e) refl

  pub lent-made : (q : Loan) → lent_of table k f.n f.l q ≡ Table.lent (next_round f.n k) f.n f.l q
  unfolding lent_of
  lent-made q = refl

-- ---- the content
module _ (f : Frame) (w : List ℕ) (m : ℕ → List ℕ) (k : ℕ) where
  pub check-echo : echo? k ≡ true → check_of table k f w m ≡ echo_check table k f w m
  unfolding check_of
  check-echo e = rw (e) refl

  pub check-held : echo? k ≡ false → to_echo table (eqb f.n 2) k ≡ true → check_of table k f w m ≡ none?
  unfolding check_of
  check-held e t = rw (e, t) refl

  pub check-plain : echo? k ≡ false → to_echo table (eqb f.n 2) k ≡ false → check_of table k f w m ≡ Table.judge k f w m
  unfolding check_of
  check-plain e t = rw (e, t) refl

  -- ---- what is kept and written
  module _ (q : Loan) where
    pub keep-last : k ≡ 22 → keep_of table k f q w m ≡ replicate (length w) 0
    unfolding keep_of
    keep-last e = rw (eq-eqb k 22 e) refl

    pub keep-held : k ≢ 22 → to_echo table (eqb f.n 2) k ≡ true → keep_of table k f q w m ≡ for_echo table k f w m
    unfolding keep_of
    keep-held ne t = rw (ne_eqb k 22 ne, t) refl

    pub keep-made : k < 22 → to_echo table (eqb f.n 2) k ≡ false
        → keep_of table k f q w m ≡ Table.held (next_round f.n k) f q (pick (echo? k) w (Table.kept k f w m))
    unfolding keep_of made
    keep-made h t = rw (ne_eqb k 22 (omega arith), t) refl

    pub write-last : k ≡ 22 → write_of table k f q w m ≡ table.result f w m
    unfolding write_of
    write-last e = rw (eq-eqb k 22 e) refl

    pub write-held : k ≢ 22 → to_echo table (eqb f.n 2) k ≡ true
        → write_of table k f q w m ≡ to_others f.n f.i (echo_msg f.n f.i (digests table k f m))
    unfolding write_of echo
    write-held ne t = rw (ne_eqb k 22 ne, t) refl

    pub write-made : k < 22 → to_echo table (eqb f.n 2) k ≡ false
        → write_of table k f q w m ≡ to_others f.n f.i (Table.written (next_round f.n k) f q
        (Table.held (next_round f.n k) f q (pick (echo? k) w (Table.kept k f w m))))
    unfolding write_of made
    write-made h t = rw (ne_eqb k 22 (omega arith), t) refl

-- ---- an echo's messages are n options
pub echo-received : (f : Frame) (k : ℕ) (incoming : List ℕ) (mail : Mail) → echo? k ≡ true
    → Received (kind_of f.l k) (count_due f.n f.l k) f incoming mail → Received Options f.n f incoming mail
echo-received f k incoming mail e r =
    subst (λ c. Received Options c f incoming mail) (echo-count k e f.n f.l)
    (subst (λ K. Received K (count_due f.n f.l k) f incoming mail) (echo-kind k e f.l) r)

-- ---- one of two work areas, by a test that was made
pub zero-takes : (code : ℕ) (v x y : List ℕ) → code ≡ 0 → v ≡ x → v ≡ pick (eqb code 0) x y
zero-takes code v x y z e = e ∙ sym (ap (λ b. pick b x y) (eq-eqb code 0 z))

pub other-leaves : (code : ℕ) (x y : List ℕ) → code ≢ 0 → y ≡ pick (eqb code 0) x y
other-leaves code x y ne = sym (ap (λ b. pick b x y) (ne_eqb code 0 ne))

pub plain-takes : (k : ℕ) (v x y : List ℕ) → echo? k ≡ false → v ≡ y → v ≡ pick (echo? k) x y
plain-takes k v x y e q = q ∙ sym (ap (λ b. pick b x y) e)

pub echo-leaves : (k : ℕ) (x y : List ℕ) → echo? k ≡ true → x ≡ pick (echo? k) x y
echo-leaves k x y e = sym (ap (λ b. pick b x y) e)

-- ---- the last round
pub last-received : (f : Frame) (incoming : List ℕ) (mail : Mail) → Received (kind_of f.l 22) (count_due f.n f.l 22) f incoming mail
    → Received (Items 34 2) f.l f incoming mail
unfolding kind_of count_due
last-received f incoming mail r = r

-- the results look at other parties' messages alone
pub results-masked : (f : Frame) (w : List ℕ) (m : ℕ → List ℕ) → table.result f w (mask f m) ≡ table.result f w m
results-masked f w m = Masks.results f m _ _ _ _ _
