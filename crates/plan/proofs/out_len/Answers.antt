-- `plan::out_len` meets its contract.
use Rattle.std.specs.Prelude.{◌-◌, ◌≤◌}
use Rattle.lists.specs.Kit.{refl, sym, ◌∙◌, arith}
use native.Mathlib.Nat.{mul-le-mul}
use borrow.Author.Tests.{ne_eqb}
use Rattle.plan.specs.Plan.{out_len, InRange}
use Rattle.plan.specs.PlanLaws.{in-range-true, msg-most}
use Rattle.plan.proofs.out_len.Goals as goal
use Rattle.plan.proofs.out_len.Goals.{Then-in_range}

pub returns-then-k-eq-FAAND : goal.returns-then-k-eq-FAAND
unfolding out_len
returns-then-k-eq-FAAND c = rw c.if-k-eq-FAAND.true c.shares_len.ensures

pub returns-then-next-eq0 : goal.returns-then-next-eq0
unfolding out_len
returns-then-next-eq0 c = rw (ne_eqb _ _ c.if-k-eq-FAAND.false, sym c.writes-next.ensures ∙ c.if-next-eq0.true) refl

ok : (c : Then-in_range) → InRange c.args.n c.args.l
ok c = in-range-true _ _ (sym c.in_range.ensures ∙ c.if-in_range.true)

pub overflow_sub-result : goal.overflow_sub-result
overflow_sub-result c = let r = ok (goal.at.overflow_sub-result c).Then-in_range in omega arith

pub overflow_mul-result : goal.overflow_mul-result
overflow_mul-result c =
    let r = ok (goal.at.overflow_mul-result c).Then-in_range in let h : c.args.n - 1 ≤ 7 = omega arith in
    rw c.msg_len.ensures (omega (arith, mul-le-mul h (msg-most c.args.n c.args.l r c.writes-next.result)))

pub returns-then-in_range : goal.returns-then-in_range
unfolding out_len
returns-then-in_range c =
    rw (
      c.msg_len.ensures,
      ne_eqb _ _ c.if-k-eq-FAAND.false,
      sym c.writes-next.ensures,
      ne_eqb _ _ c.if-next-eq0.false,
      sym c.in_range.ensures ∙ c.if-in_range.true,
    ) refl

pub returns-else-in_range : goal.returns-else-in_range
unfolding out_len
returns-else-in_range c =
    rw (
      ne_eqb _ _ c.if-k-eq-FAAND.false,
      sym c.writes-next.ensures,
      ne_eqb _ _ c.if-next-eq0.false,
      sym c.in_range.ensures ∙ c.if-in_range.false,
    ) refl

pub msg_len-requires : goal.msg_len-requires
msg_len-requires c = ok (goal.at.msg_len-requires c).Then-in_range
