-- `plan::kind_of` meets its contract.
use Rattle.lists.specs.Kit.{refl, sym, arith}
use mathlib.Core.Logic.{⊎_elim, inl, inr}
use Rattle.plan.specs.Plan.{kind_of}
use Rattle.plan.specs.PlanLaws.{bucket-low, kind-rest}
use Rattle.plan.proofs.kind_of.Goals as goal

pub overflow_sub-result : goal.overflow_sub-result
overflow_sub-result c = omega (arith, c.bucket_size.ensures, bucket-low c.args.l)

pub returns-in-1 : goal.returns-in-1
unfolding kind_of
returns-in-1 c = ⊎_elim (λ e. rw e refl) (⊎_elim (λ e. rw e refl) (λ e. rw e refl)) c.in-1.is

pub returns-in-3 : goal.returns-in-3
unfolding kind_of
returns-in-3 c = ⊎_elim (λ e. rw e refl) (λ e. rw e refl) c.in-3.is

pub returns-in-6 : goal.returns-in-6
unfolding kind_of
returns-in-6 c = ⊎_elim (λ e. rw e refl) (λ e. rw e refl) c.in-6.is

pub returns-in-8 : goal.returns-in-8
unfolding kind_of
returns-in-8 c = rw c.in-8.is refl

pub returns-in-10 : goal.returns-in-10
unfolding kind_of
returns-in-10 c = rw c.in-10.is refl

pub returns-in-12 : goal.returns-in-12
unfolding kind_of
returns-in-12 c = ⊎_elim (λ e. rw e refl) (λ e. rw e refl) c.in-12.is

pub returns-in-14 : goal.returns-in-14
unfolding kind_of
returns-in-14 c = rw c.in-14.is refl

pub returns-in-21 : goal.returns-in-21
unfolding kind_of
returns-in-21 c = rw (c.in-21.is, c.bucket_size.ensures) refl

pub returns-in-22 : goal.returns-in-22
unfolding kind_of
returns-in-22 c = rw c.in-22.is refl

pub returns-in_default : goal.returns-in_default
returns-in_default c =
    sym (kind-rest c.args.k
    (record {
      not1 = λ e. c.in_default.in_default-own.rest.0.0.0.0.0.0.0.0.1 (inl e);
      not3 = λ e. c.in_default.in_default-own.rest.0.0.0.0.0.0.0.1 (inl e);
      not4 = λ e. c.in_default.in_default-own.rest.0.0.0.0.0.0.0.0.1 (inr (inl e));
      not5 = λ e. c.in_default.in_default-own.rest.0.0.0.0.0.0.0.1 (inr e);
      not6 = λ e. c.in_default.in_default-own.rest.0.0.0.0.0.0.1 (inl e);
      not8 = c.in_default.in_default-own.rest.0.0.0.0.0.1;
      not10 = c.in_default.in_default-own.rest.0.0.0.0.1;
      not12 = λ e. c.in_default.in_default-own.rest.0.0.0.1 (inl e);
      not14 = c.in_default.in_default-own.rest.0.0.1;
      not15 = λ e. c.in_default.in_default-own.rest.0.0.0.0.0.0.1 (inr e);
      not17 = λ e. c.in_default.in_default-own.rest.0.0.0.0.0.0.0.0.1 (inr (inr e));
      not19 = λ e. c.in_default.in_default-own.rest.0.0.0.1 (inr e);
      not21 = c.in_default.in_default-own.rest.0.1;
      not22 = c.in_default.in_default-own.rest.1;
    }) c.args.l)
