use Rattle.lists.specs.Kit.{refl, sym, ◌∙◌}
use Rattle.plan.specs.PlanLaws.{parties-true}
use Rattle.interface.specs.Interface.{record_bytes}
use Rattle.interface.proofs.record_len.Goals as goal

pub lent_len-requires : goal.lent_len-requires
lent_len-requires c = (parties-true c.args.n (sym c.parties.ensures ∙ c.if-parties.true)).1

pub returns-then-parties : goal.returns-then-parties
unfolding record_bytes
returns-then-parties c = rw (sym c.parties.ensures, c.if-parties.true) c.lent_len.ensures

pub returns-else-parties : goal.returns-else-parties
unfolding record_bytes
returns-else-parties c = rw (sym c.parties.ensures, c.if-parties.false) refl
