use Rattle.std.specs.Prelude.{◌+◌, ◌-◌, ◌≤◌, ◌<◌}
use Rattle.lists.specs.Kit.{refl, arith, rules}
use Rattle.std.proofs.lemmas.Iterator.{cases_from_all, YieldsList-from_slice}
use borrow.Author.Tests.{tests}
use Rattle.message.proofs.Laws.{bools-are}
use Rattle.message.proofs.bools.Goals as goal

pub returns : goal.returns
returns c =
    let a = c.args in
    bools-are a.s.now _ a.at a.count (a.at + c.min.result - a.at) (omega arith) refl c.all.result
    (cases_from_all _ _ _ (λ x. x ≤ 1) (λ x. 1 < x) c.all.ensures.ran (YieldsList-from_slice _ cc)
    (λ x q k. search (rules, tests)) (λ x q k. search (rules, tests)))
