-- `plan::count_due` meets its contract.
use Rattle.lists.specs.Kit.{refl, sym}
use mathlib.Core.Logic.{⊎_elim, inl, inr}
use Rattle.plan.specs.Plan.{count_due}
use Rattle.plan.specs.PlanLaws.{count-rest}
use Rattle.plan.proofs.count_due.Goals as goal

pub returns-in-1 : goal.returns-in-1
unfolding count_due
returns-in-1 c = ⊎_elim (λ e. rw e refl) (λ e. rw e refl) c.in-1.is

pub returns-in-3 : goal.returns-in-3
unfolding count_due
returns-in-3 c = ⊎_elim (λ e. rw e refl) (λ e. rw e refl) c.in-3.is

pub returns-in-6 : goal.returns-in-6
unfolding count_due
returns-in-6 c = rw c.in-6.is refl

pub returns-in-8 : goal.returns-in-8
unfolding count_due
returns-in-8 c = ⊎_elim (λ e. rw e refl) (⊎_elim (λ e. rw e refl) (λ e. rw e refl)) c.in-8.is

pub returns-in-14 : goal.returns-in-14
unfolding count_due
returns-in-14 c = rw c.leaky.ensures (⊎_elim (λ e. rw e refl) (⊎_elim (λ e. rw e refl) (λ e. rw e refl)) c.in-14.is)

pub returns-in-15 : goal.returns-in-15
unfolding count_due
returns-in-15 c = rw (c.leaky-in-15.ensures, c.in-15.is) refl

pub returns-in-21 : goal.returns-in-21
unfolding count_due
returns-in-21 c = rw c.in-21.is refl

pub returns-in-22 : goal.returns-in-22
unfolding count_due
returns-in-22 c = rw c.in-22.is refl

pub returns-in_default : goal.returns-in_default
returns-in_default c =
    sym (count-rest c.args.k
    (record {
      not1 = λ e. c.in_default.in_default-own.rest.0.0.0.0.0.0.0.1 (inl e);
      not3 = λ e. c.in_default.in_default-own.rest.0.0.0.0.0.0.1 (inl e);
      not4 = λ e. c.in_default.in_default-own.rest.0.0.0.0.0.0.0.1 (inr e);
      not5 = λ e. c.in_default.in_default-own.rest.0.0.0.0.0.0.1 (inr e);
      not6 = c.in_default.in_default-own.rest.0.0.0.0.0.1;
      not8 = λ e. c.in_default.in_default-own.rest.0.0.0.0.1 (inl e);
      not10 = λ e. c.in_default.in_default-own.rest.0.0.0.0.1 (inr (inl e));
      not12 = λ e. c.in_default.in_default-own.rest.0.0.0.0.1 (inr (inr e));
      not14 = λ e. c.in_default.in_default-own.rest.0.0.0.1 (inl e);
      not15 = c.in_default.in_default-own.rest.0.0.1;
      not17 = λ e. c.in_default.in_default-own.rest.0.0.0.1 (inr (inl e));
      not19 = λ e. c.in_default.in_default-own.rest.0.0.0.1 (inr (inr e));
      not21 = c.in_default.in_default-own.rest.0.1;
      not22 = c.in_default.in_default-own.rest.1;
    }) c.args.n c.args.l)
