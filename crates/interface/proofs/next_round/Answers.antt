use Rattle.lists.specs.Kit.{refl, sym, arith}
use Rattle.interface.specs.Interface.{round_after}
use Rattle.interface.specs.InterfaceLaws.{writes-small}
use Rattle.interface.proofs.next_round.Goals as goal

pub overflow_cast-result : goal.overflow_cast-result
overflow_cast-result c =
    omega (arith, c.writes.ensures, writes-small c.args.n c.args.round)

pub returns-then-parties : goal.returns-then-parties
unfolding round_after
returns-then-parties c = rw (sym c.parties.ensures, c.if-parties.true) c.writes.ensures

pub returns-else-parties : goal.returns-else-parties
unfolding round_after
returns-else-parties c = rw (sym c.parties.ensures, c.if-parties.false) refl
