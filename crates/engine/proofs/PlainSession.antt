-- Demand 3 for a table of plain rounds and an opening: the scene, and what is left to show for it.
use Rattle.std.specs.Prelude.{◌≡◌, true, ◌≢◌, List, ℕ, ◌<◌, eqb}
use Rattle.std.proofs.Math.Path.{refl}
use Rattle.std.proofs.Common.{ap, ◌∙◌, subst}
use Rattle.std.proofs.Math.Option.{some}
use Rattle.lists.specs.Pick.{pick}
use Rattle.batches.specs.Batches.{whole}
use Rattle.engine.specs.Step.{frame, Loan, Accepted, Refused, outcome}
use Rattle.engine.specs.World.{Opening, Box, Call, Scene, session_of, session_at, start, runs, FairList, Done}
use Rattle.engine.specs.Engine.{Joint, Alike, Duty}
use Rattle.engine.proofs.EngineLaws.{ideal, every-result}
use Rattle.engine.specs.Live.{Cast}
use Rattle.engine.specs.Area.{to_others}
use Rattle.engine.specs.Sheet.{Known, Holds}
use Rattle.engine.specs.Plain.{Send, Table, next_of, number_of, steps_of, to_echo, lent_of, digests, made, keep_of, write_of, protocol_of}
use Rattle.engine.specs.Honest.{Lawful, due, Script, store_of, Honest, sheet_of, loans_of}
use Rattle.engine.proofs.PlainLaws.{course_of, known-first, number-end, honest-rounds}

-- ---- what is lent
-- two loans are alike to how a round's messages are made
pub record AlikeSend (S : Send) (n l : ℕ) (q q' : Loan) : Type 0 where
  pub keep : (i : ℕ) (w : List ℕ) → S.keep (frame n l i) q w ≡ S.keep (frame n l i) q' w
  pub write : (i r : ℕ) (w : List ℕ) → S.write (frame n l i) q w r ≡ S.write (frame n l i) q' w r

pub alike_same : (S : Send) (n l : ℕ) (q q' : Loan) → q ≡ q' → AlikeSend S n l q q'
alike_same S n l q q' e = record {
  keep = λ i w. ap (λ (p : Loan). S.keep (frame n l i) p w) e;
  write = λ i r w. ap (λ (p : Loan). S.write (frame n l i) p w r) e;
}

-- and so they are to the call
alike-call : (T : Table) (n l k : ℕ) (q q' : Loan) → AlikeSend (T.send (next_of T (eqb n 2) k)) n l q q'
    → Alike ((protocol_of T).rule k) n l q q'
unfolding keep_of write_of made
alike-call T n l k q q' A = record {
  check = λ i w m. refl;
  keep = λ i w m. rw A.keep refl;
  write = λ i w m. ap (λ (x : ℕ → List ℕ). pick (eqb k T.order.last) (T.result (frame n l i) w m) (to_others n i
      (pick (to_echo T (eqb n 2) k) (T.echo.write n i (digests T k (frame n l i) m)) x))) (λ e r. same i w m r e);
}
  where
    same : (i : ℕ) (w : List ℕ) (m : ℕ → List ℕ) (r : ℕ)
        → (T.send (next_of T (eqb n 2) k)).write (frame n l i) q (made T k (frame n l i) q w m) r
        ≡ (T.send (next_of T (eqb n 2) k)).write (frame n l i) q' (made T k (frame n l i) q' w m) r
    same i w m r = A.write i r _ ∙ ap (λ (w : List ℕ). (T.send (next_of T (eqb n 2) k)).write (frame n l i) q' w r) (A.keep i _)

-- ---- the scene: n boxes with one l, which each box's counts make, that run the rounds of the table
-- Agree j: what is asked of the r Blocks of the call that makes the messages of round j; Given b: what makes an
-- opening box b's own
module _ (T : Table) (n l : ℕ) {Args : Type 0} (O : Opening Args) (Agree : ℕ → Loan → Type 0) (Given : ℕ → Args → Type 0)
    (W : Lawful T n l) (counts : ℕ → List ℕ) (make : (b : ℕ) → b < n → whole l (counts b) ≡ true) where
  abbrev pub scene_of : Scene Args
  scene_of = record {
    protocol = protocol_of T;
    opens = O;
    n = n;
    l = l;
    counts = counts;
    course = course_of T n l W counts make;
    Agrees = λ k q. Agree (next_of T (eqb n 2) k) q;
    Given = Given;
  }

  -- its premises can be met: inputs for every box, and r Blocks that have no reason: lends b j, with the call of box b
  -- that makes the messages of round j
  pub record Supply : Type 0 where
    pub args : ℕ → Args
    pub lends : ℕ → ℕ → Loan
    pub given : (b : ℕ) → b < n → Given b (args b)
    pub valid : (b j : ℕ) → b < n → (T.send j).lent n l (lends b j) ≡ 0
    pub agree : (b j : ℕ) → b < n → Agree j (lends b j)

  pub cast_of : Supply → Cast scene_of
  unfolding lent_of
  cast_of I = record {
    args = I.args;
    lends = λ b k. I.lends b (next_of T (eqb n 2) k);
    given = I.given;
    valid = λ b d lb h. I.valid b (next_of T (eqb n 2) (number_of T (eqb n 2) d)) lb;
    agree = λ b d lb h. I.agree b (next_of T (eqb n 2) (number_of T (eqb n 2) d)) lb;
  }

  pub cast-lends : (I : Supply) (b k : ℕ) → (cast_of I).lends b k ≡ I.lends b (next_of T (eqb n 2) k)
  unfolding cast_of
  cast-lends I b k = refl

-- ---- what is left to show for it
module _ (T : Table) (U : Script) (n l : ℕ) {Args : Type 0} (O : Opening Args) (Agree : ℕ → Loan → Type 0) (Given : ℕ → Args → Type 0)
    (W : Lawful T n l) (counts : ℕ → List ℕ) (make : (b : ℕ) → b < n → whole l (counts b) ≡ true) where
  abbrev pub scene : Scene Args
  scene = scene_of T n l O Agree Given W counts make

  -- what opening owes
  pub record HonestOpening : Type 0 where
    pub first : Joint
    pub refuses : (a : Args) → O.reason a ≢ 0
        → O.spec a ≡ outcome (O.spec a).session (Refused (O.reason a) (O.party a)) (O.work a) (O.out a)
    pub takes : (b : ℕ) (a : Args) → b < n → Given b a
        → (O.reason a ≡ 0) × (O.spec a ≡ outcome (session_of n l (counts b) b 1) Accepted (first.work b) (first.out b))
    pub keeps : (i : ℕ) → i < n → Known n l (store_of T U n l) (due 1) i (first.work i)
    pub writes : (j : ℕ) → j < n → first.out j ≡ to_others n j (U.sent 1 j)
    pub agrees : (j : ℕ) (q : Loan) → (T.send j).lent n l q ≡ 0 → Agree j q → AlikeSend (T.send j) n l q (U.loan j)

  module _ (H : Honest T U n l) (B : HonestOpening) where
    pub agreed-by : (k : ℕ) (q : Loan) → lent_of T k n l q ≡ 0 → Agree (next_of T (eqb n 2) k) q
        → Alike ((protocol_of T).rule k) n l q (loans_of T U n l k)
    unfolding lent_of loans_of
    agreed-by k q v a = alike-call T n l k q _ (B.agrees (next_of T (eqb n 2) k) q v a)

    pub takes-by : (b : ℕ) (a : Args) → b < n → Given b a
        → (O.reason a ≡ 0) × (O.spec a ≡ outcome (session_at scene b 0) Accepted (B.first.work b) (B.first.out b))
    unfolding number_of
    takes-by = B.takes

    abbrev pub duty_of : Duty scene
    duty_of = record {
      loans = loans_of T U n l;
      first = B.first;
      Holds = Holds (protocol_of T) n l (loans_of T U n l) (sheet_of T U n l);
      agreed = agreed-by;
      refuses = B.refuses;
      takes = takes-by;
      base = known-first T U n l W B.first B.keeps B.writes;
      rounds = honest-rounds T U n l W H;
    }

    -- ---- what follows, beside `every_call` and `every-done`
    -- what a done box wrote last is its result
    pub every-written : (cs : List (Call Args)) → FairList scene start cs → (b : ℕ) (x : Box) → (runs scene cs).box b ≡ some x
        → Done (protocol_of T) x.session → (b < n) × (x.wrote ≡ U.result b)
    every-written cs fair b x e done =
        let G : Joint = ideal scene duty_of (steps_of T (eqb n 2)) in
        let r = every-result scene duty_of cs fair b x e done in
        let h : duty_of.Holds 0 G = subst (λ k. duty_of.Holds k G) (number-end T n l W) r.2 in
        (r.0, r.1 ∙ h b r.0)
