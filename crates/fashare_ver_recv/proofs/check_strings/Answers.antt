use Rattle.std.specs.Prelude.{◌≡◌, Err}
use Rattle.lists.specs.Kit.{arith, rules}
use Rattle.rounds.specs.Fashare as Fashare
use Rattle.rounds.specs.Fashare.{STRINGS}
use Rattle.rounds.specs.DmLaws.{checked}
use Rattle.rounds.specs.FaultLaws.{first-zero, item-first, item-next, item-none}
use Rattle.fashare_ver_recv.proofs.check_strings.Goals as goal

pub loop-q-init : goal.loop-q-init
loop-q-init c = first-zero _

pub check_string-requires : goal.check_string-requires
check_string-requires c =
    record { q_bound = c.loop-q-test.true; checked = checked c.args.f c.loop-q.q _ _ (omega arith) c.requires c.loop-q.invariant }

pub returns-in_err-check_string : goal.returns-in_err-check_string
unfolding Fashare.dm_faults
returns-in_err-check_string c =
    let r : c.from_residual.result ≡ Err c.in_err-check_string.field-0.0 = search rules in
    rw r
    (item-first _ STRINGS c.loop-q.q c.in_err-check_string.field-0.0 c.loop-q-test.true c.loop-q.invariant c.in_err-check_string.ensures)

pub loop-q-preserved : goal.loop-q-preserved
loop-q-preserved c = item-next _ c.loop-q.q c.loop-q.invariant c.in_ok-check_string.ensures

pub returns : goal.returns
unfolding Fashare.dm_faults
returns c = item-none _ STRINGS c.loop-q.q (omega arith) c.loop-q.invariant
