use Rattle.std.specs.Prelude.{◌≡◌, Err}
use Rattle.lists.specs.Kit.{sym, ap, ◌∙◌, List, ℕ, arith, rules}
use Rattle.rounds.specs.Area.{HS, H_COMMS, at}
use Rattle.rounds.specs.Mail.{letter}
use Rattle.rounds.specs.Flaand.{opening}
use Rattle.area.specs.GivenLaws.{lent_length}
use Rattle.area.specs.Sizes.{size-hs, size-h-comms}
use Rattle.flaand_hash.specs.Laws.{summed, faults-open, faults-none, faults-sum}
use Rattle.flaand_hash.proofs.judge.Goals as goal
use Rattle.flaand_hash.proofs.judge.Goals.{After-zero_sum}

pub open-requires-clause-in_range : goal.open-requires-clause-in_range
open-requires-clause-in_range c =
    (c.requires.work.ranges.range, lent_length c.requires.work H_COMMS _ _ (omega arith) (size-h-comms c.args.f) c.section.ensures)

pub returns-in_err-open : goal.returns-in_err-open
returns-in_err-open c =
    let r : c.from_residual.result ≡ Err c.in_err-open.field-0.0 = search rules in
    rw (r, ← c.section.ensures) (faults-open c.args.f _ c.section.result.now _ c.in_err-open.field-0.0 c.in_err-open.ensures)

pub zero_sum-requires-clause-l_bound : goal.zero_sum-requires-clause-l_bound
zero_sum-requires-clause-l_bound c =
    (c.requires.work.ranges.range.most, lent_length c.requires.work HS _ _ (omega arith) (size-hs c.args.f) c.section-2.ensures)

-- nothing fails to open
opened : (c : After-zero_sum) → (opening c.args.f (at c.args.f H_COMMS c.args.work.now) (letter c.args.incoming.now c.args.mail)).code ≡ 0
opened c = rw (← c.section.ensures) c.in_ok-open.ensures

-- what was summed is own h
sums : (c : After-zero_sum) → c.zero_sum.result ≡ summed c.args.f (at c.args.f HS c.args.work.now) (letter c.args.incoming.now c.args.mail)
sums c = c.zero_sum.ensures ∙ ap (λ (x : List ℕ). summed c.args.f x (letter c.args.incoming.now c.args.mail)) c.section-2.ensures

pub returns-then-zero_sum : goal.returns-then-zero_sum
returns-then-zero_sum c =
    let a = (goal.at.returns-then-zero_sum c).After-zero_sum in
    faults-none c.args.f _ _ _ (opened a) (sym (sums a) ∙ c.if-zero_sum.true)

pub returns-else-zero_sum : goal.returns-else-zero_sum
returns-else-zero_sum c =
    let a = (goal.at.returns-else-zero_sum c).After-zero_sum in
    faults-sum c.args.f _ _ _ (opened a) (sym (sums a) ∙ c.if-zero_sum.false)
