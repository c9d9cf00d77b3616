use Rattle.std.specs.Prelude.{◌≡◌, Err}
use Rattle.lists.specs.Kit.{arith, rules}
use Rattle.rounds.specs.Area.{SHARE_COMMS}
use Rattle.rounds.specs.Fashare as Fashare
use Rattle.rounds.specs.Fashare.{STRINGS}
use Rattle.rounds.specs.FaultLaws.{first-zero, item-first, item-next, item-none}
use Rattle.area.specs.GivenLaws.{lent_length}
use Rattle.area.specs.Sizes.{size-share-comms}
use Rattle.fashare_dibi.specs.Laws.{given}
use Rattle.fashare_dibi.proofs.judge.Goals as goal

pub loop-q-init : goal.loop-q-init
loop-q-init c = first-zero _

pub check_string-requires : goal.check_string-requires
check_string-requires c =
    record {
      q_bound = c.loop-q-test.true;
      dms_kept = given c.requires.work _ _ c.section-recs.ensures c.section-dms.ensures;
      comms_len = (
        lent_length c.requires.work SHARE_COMMS _ _ (omega arith) (size-share-comms c.args.f) c.section-comms.ensures,
        c.requires.arrived,
      );
    }

pub returns-in_err-check_string : goal.returns-in_err-check_string
unfolding Fashare.dibi_faults
returns-in_err-check_string c =
    rw (← c.section-dms.ensures, ← c.section-comms.ensures, ← c.section-recs.ensures)
    (let r : c.from_residual.result ≡ Err c.in_err-check_string.field-0.0 = search rules in
    rw r
    (item-first _ STRINGS c.loop-q.q c.in_err-check_string.field-0.0 c.loop-q-test.true c.loop-q.invariant c.in_err-check_string.ensures))

pub loop-q-preserved : goal.loop-q-preserved
loop-q-preserved c = item-next _ c.loop-q.q c.loop-q.invariant c.in_ok-check_string.ensures

pub returns : goal.returns
unfolding Fashare.dibi_faults
returns c =
    rw (← c.section-dms.ensures, ← c.section-comms.ensures, ← c.section-recs.ensures)
    (item-none _ STRINGS c.loop-q.q (omega arith) c.loop-q.invariant)
