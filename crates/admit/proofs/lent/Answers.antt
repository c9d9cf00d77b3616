-- `admit::lent` meets its contract.
use Rattle.std.specs.Prelude.{◌≡◌}
use Rattle.lists.specs.Kit.{sym, ap, ◌∙◌, ℕ, Bool}
use Rattle.lists.specs.Pick.{pick}
use Rattle.engine.specs.Plain.{lent_of}
use Rattle.rounds.specs.Table.{table}
use Rattle.admit.specs.Admit.{loan}
use Rattle.admit.proofs.AdmitLaws.{lent_of_lem, lent-r, lent-rest}
use Rattle.admit.proofs.lent.Goals as goal
use Rattle.admit.proofs.lent.Goals.{Joined-next_round-eq-FABITN, then-next_round-eq-FABITN, else-next_round-eq-FABITN}

-- by what is due
answers : (c : Joined-next_round-eq-FABITN) → (x : ℕ) → x ≡ pick c.if-next_round-eq-FABITN.due 0 17
    → x ≡ lent_of table c.args.k c.args.n c.args.l (loan c.args.r.now)
answers c x e =
    let j = c.next_round.result in
    let n = c.args.n in
    let l = c.args.l in
    let r = c.args.r.now in
    let due = c.if-next_round-eq-FABITN.due in
    elim c.if-next_round-eq-FABITN.branch [
      | then-next_round-eq-FABITN w ↦
          lent_of_lem c.args.k n l j x (loan r) c.next_round.ensures
          (lent-r j n l r w.if-next_round-eq-FABITN.true x due (w.due-is ∙ w.r_fits-due.ensures) e)
      | else-next_round-eq-FABITN w ↦
          lent_of_lem c.args.k n l j x (loan r) c.next_round.ensures (lent-rest j n l r w.if-next_round-eq-FABITN.false x due w.due-is e)
    ]

pub returns-then-due : goal.returns-then-due
returns-then-due c = answers (goal.at.returns-then-due c).Joined-next_round-eq-FABITN 0 (ap (λ (b : Bool). pick {A = ℕ} b 0 17) (sym c.if-due.true))

pub returns-else-due : goal.returns-else-due
returns-else-due c = answers (goal.at.returns-else-due c).Joined-next_round-eq-FABITN 17 (ap (λ (b : Bool). pick {A = ℕ} b 0 17) (sym c.if-due.false))
