-- The engine: whatever the rounds are, if each is honest in step, then in every list of calls each box follows the run in step, and a
-- call is refused exactly where it has a reason. A round owes a HonestRound; nothing here changes with it.
use Rattle.std.specs.Prelude.{◌≡◌, ◌≢◌, List, length}
use Prim.Native.Nat.{ℕ, ◌<◌}
use Rattle.engine.specs.Step.{frame, Loan, Accepted, Refused, outcome, Rule}
use Rattle.engine.specs.Step.{Protocol, mask}
use Rattle.engine.specs.Step.{stretch}
use Rattle.engine.specs.World.{Scene, session_at}

-- all boxes in step: each one's work area, and the outgoing buffer of its last call
pub record Joint : Type 0 where
  pub work : ℕ → List ℕ
  pub out : ℕ → List ℕ

module _ (P : Protocol) (n l : ℕ) (loans : ℕ → Loan) where
  -- what box i receives for round k
  unfoldable pub mail_of : ℕ → Joint → ℕ → ℕ → List ℕ
  mail_of k G i = mask (frame n l i) (λ j. stretch (P.msg_len n l k) j i (G.out j))

  -- all boxes take round k
  unfoldable pub together : ℕ → Joint → Joint
  together k G = record {
    work = λ i. (P.rule k).keep (frame n l i) (loans k) (G.work i) (mail_of k G i);
    out = λ i. (P.rule k).write (frame n l i) (loans k) (G.work i) (mail_of k G i);
  }

  -- what has to be shown of round k. Holds k G: what is true of the work areas and messages when round k is due for all
  pub record HonestRound (Holds : ℕ → Joint → Type 0) (k : ℕ) : Type 0 where
    pub sized : (G : Joint) → Holds k G → (i : ℕ) → i < n → length (G.work i) ≡ P.work_len (frame n l i)
    pub formed : (G : Joint) → Holds k G → (i j : ℕ) → i < n → j < n → i ≢ j
        → (P.rule k).form (frame n l i) (stretch (P.msg_len n l k) j i (G.out j)) ≡ 0
    pub passes : (G : Joint) → Holds k G → (i : ℕ) → i < n
        → ((P.rule k).check (frame n l i) (loans k) (G.work i) (mail_of k G i)).code ≡ 0
    pub goes : (G : Joint) → Holds k G → Holds (P.next n k) (together k G)

-- Two loans are alike to a rule that makes the same of both, as of equal ones. The engine asks no more, and looks into none: a rule may
-- take what is lent in several forms.
pub record Alike (R : Rule) (n l : ℕ) (q q' : Loan) : Type 0 where
  pub check : (i : ℕ) (w : List ℕ) (m : ℕ → List ℕ) → R.check (frame n l i) q w m ≡ R.check (frame n l i) q' w m
  pub keep : (i : ℕ) (w : List ℕ) (m : ℕ → List ℕ) → R.keep (frame n l i) q w m ≡ R.keep (frame n l i) q' w m
  pub write : (i : ℕ) (w : List ℕ) (m : ℕ → List ℕ) → R.write (frame n l i) q w m ≡ R.write (frame n l i) q' w m

-- what has to be shown for a scene
pub record Duty {Args : Type 0} (S : Scene Args) : Type 1 where
  pub loans : ℕ → Loan
  pub first : Joint
  pub Holds : ℕ → Joint → Type 0
  pub agreed : (k : ℕ) (q : Loan) → (S.protocol.rule k).lent S.n S.l q ≡ 0 → S.Agrees k q
      → Alike (S.protocol.rule k) S.n S.l q (loans k)
  pub refuses : (a : Args) → S.opens.reason a ≢ 0
      → S.opens.spec a
      ≡ outcome (S.opens.spec a).session (Refused (S.opens.reason a) (S.opens.party a)) (S.opens.work a) (S.opens.out a)
  pub takes : (b : ℕ) (a : Args) → b < S.n → S.Given b a
      → (S.opens.reason a ≡ 0) × (S.opens.spec a ≡ outcome (session_at S b 0) Accepted (first.work b) (first.out b))
  pub base : Holds (S.course.number 0) first
  pub rounds : (d : ℕ) → d < S.course.steps → HonestRound S.protocol S.n S.l loans Holds (S.course.number d)
