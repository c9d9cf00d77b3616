use Rattle.std.specs.Prelude.{◌≡◌, Err}
use Rattle.lists.specs.Kit.{ap, ◌∙◌, arith, length, rules}
use Rattle.rounds.specs.Area.{KEY_SUMS, sizes, size_of}
use Rattle.rounds.specs.Fabitn as Fabitn
use Rattle.rounds.specs.Fabitn.{STRINGS}
use Rattle.rounds.specs.FaultLaws.{first-zero, item-first, item-next, item-none}
use Rattle.area.specs.GivenLaws.{length_at}
use Rattle.fabitn_recv.proofs.judge.Goals as goal

pub loop-j-init : goal.loop-j-init
loop-j-init c = first-zero _

pub check_string-requires : goal.check_string-requires
unfolding size_of sizes
check_string-requires c =
    record { j_bound = c.loop-j-test.true; sums_len = ap length c.section-sums.ensures ∙ length_at c.requires.work KEY_SUMS (omega arith); arrived = c.requires.arrived }

pub returns-in_err-check_string : goal.returns-in_err-check_string
unfolding Fabitn.abits
returns-in_err-check_string c =
    rw (← c.section-sums.ensures, ← c.delta-delta.ensures)
    (let r : c.from_residual.result ≡ Err c.in_err-check_string.field-0.0 = search rules in
    rw r (item-first _ STRINGS c.loop-j.j c.in_err-check_string.field-0.0 c.loop-j-test.true c.loop-j.invariant c.in_err-check_string.ensures))

pub loop-j-preserved : goal.loop-j-preserved
loop-j-preserved c = item-next _ c.loop-j.j c.loop-j.invariant c.in_ok-check_string.ensures

pub returns : goal.returns
unfolding Fabitn.abits
returns c =
    rw (← c.section-sums.ensures, ← c.delta-delta.ensures)
    (item-none _ STRINGS c.loop-j.j (omega arith) c.loop-j.invariant)
