use Rattle.std.specs.Prelude.{◌≡◌}
use Rattle.lists.specs.Kit.{sym, ap, subst, ◌∙◌, true, arith}
use Rattle.engine.specs.Step.{reply_of, mask, part, parts_in, fault_of}
use Rattle.engine.specs.StepLaws.{or-zero}
use Rattle.engine.specs.Plain.{rule_of}
use Rattle.rounds.specs.declared.Mail.{Mail}
use Rattle.rounds.specs.Mail.{letter}
use Rattle.refusals.specs.Reason.{number, number-some}
use Rattle.rounds.specs.FaultLaws.{Finds}
use Rattle.rounds.specs.Table.{table}
use Rattle.admit.specs.Admit.{given, posted}
use Rattle.admit.proofs.AdmitLaws.{Admitted, received, letters-are, parts-posted, fault-posted, alive-total, reason-zero}
use Rattle.session.specs.CallLaws.{call-refused, call-faulted, call-accepted}
use Rattle.session.proofs.round.Goals as goal
use Rattle.session.proofs.round.Goals.{After-fault, After-mail_of-mail, In_default}

pub returns-in-Err : goal.returns-in-Err
unfolding reply_of
returns-in-Err c =
    rw (c.silent.ensures.0, c.silent.ensures.1, c.silent.ensures.2)
    (call-refused c.args.s c.args.k (given c.args.incoming.now c.args.starts.now c.args.lens.now c.args.missing.now c.args.r.now
    c.args.out.now) c.args.work.now (number c.in-Err.reason) c.in-Err.ensures (number-some c.in-Err.reason))

let-in : (c : In_default) → Admitted c.args.s c.args.k (given c.args.incoming.now c.args.starts.now c.args.lens.now c.args.missing.now
    c.args.r.now c.args.out.now) c.args.work.now
let-in c =
    reason-zero c.args.s c.args.k (given c.args.incoming.now c.args.starts.now c.args.lens.now c.args.missing.now c.args.r.now
    c.args.out.now) c.args.work.now (sym c.in_default.ensures)

pub mail_of-mail-requires : goal.mail_of-mail-requires
mail_of-mail-requires c = let A = let-in (goal.at.mail_of-mail-requires c).In_default in (A.starts-n, A.lens-n, A.ranges.range.eight)

-- the parts, by the mail
parts : (c : After-mail_of-mail) → parts_in c.args.s.party (posted c.args.incoming.now c.mail_of-mail.result c.args.missing.now) ≡ true
parts c =
    let A : Admitted c.args.s c.args.k (given c.args.incoming.now c.args.starts.now c.args.lens.now c.args.missing.now c.args.r.now
    c.args.out.now) c.args.work.now =
    reason-zero c.args.s c.args.k (given c.args.incoming.now c.args.starts.now c.args.lens.now c.args.missing.now c.args.r.now
    c.args.out.now) c.args.work.now (sym c.in_default.ensures) in
    subst (λ (x : Mail). parts_in c.args.s.party (posted c.args.incoming.now x c.args.missing.now) ≡ true) (sym c.mail_of-mail.ensures)
    (parts-posted c.args.s.party c.args.incoming.now c.args.starts.now c.args.lens.now c.args.missing.now c.args.r.now
    c.args.out.now A.parts-in)

pub fault-requires : goal.fault-requires
fault-requires c =
    let A = let-in (goal.at.fault-requires c).In_default in
    record {
      work = record { ranges = A.ranges; whole = A.work-whole };
      round = A.round-holds;
      missing-n = A.missing-n;
      parts = parts (goal.at.fault-requires c).After-mail_of-mail;
    }

-- ---- what is found by the mail is what the definition says
found : (c : After-fault) → Finds c.fault.result (fault_of (rule_of table c.args.k) c.args.s.party
    (given c.args.incoming.now c.args.starts.now c.args.lens.now c.args.missing.now c.args.r.now c.args.out.now) c.args.work.now)
found c =
    subst (Finds c.fault.result)
    (ap (λ (m : Mail). fault_of (rule_of table c.args.k) c.args.s.party
    (posted c.args.incoming.now m c.args.missing.now) c.args.work.now) c.mail_of-mail.ensures
    ∙ fault-posted c.args.s.party c.args.incoming.now c.args.starts.now c.args.lens.now c.args.missing.now c.args.r.now c.args.out.now
    c.args.k c.args.work.now)
    c.fault.ensures

pub returns-in-Err-fault : goal.returns-in-Err-fault
unfolding reply_of
returns-in-Err-fault c =
    rw (c.silent-in-Err-fault.ensures.0, c.silent-in-Err-fault.ensures.1, c.silent-in-Err-fault.ensures.2)
    (call-faulted c.args.s c.args.k (given c.args.incoming.now c.args.starts.now c.args.lens.now c.args.missing.now c.args.r.now
    c.args.out.now) c.args.work.now (sym c.in_default.ensures)
    c.in-Err-fault.refusal c.ended.result c.clear.new.out (rw c.in-Err-fault.is at (found (goal.at.returns-in-Err-fault c).After-fault))
    c.ended.ensures c.clear.ensures)

pub step-requires : goal.step-requires
unfolding fault_of letter part
step-requires c =
    let A = let-in (goal.at.step-requires c).In_default in
    let none = or-zero _ _ c.in_default-fault.ensures in record {
      fact = record {
        work = record { ranges = A.ranges; whole = A.work-whole };
        round = A.round-holds;
        received = received c.args.s.party c.args.k c.args.incoming.now c.mail_of-mail.result c.args.missing.now none.0
            A.ranges.range.eight (parts (goal.at.step-requires c).After-mail_of-mail);
      };
      mail_value = none.1;
      out_len = (A.out-whole, A.lent_fits);
    }

-- the counts of a session that is alive make its l
pub told_after-requires : goal.told_after-requires
told_after-requires c =
    let A = let-in (goal.at.told_after-requires c).In_default in
    omega (arith, alive-total _ A.alive-is, A.ranges.range.most)

pub returns : goal.returns
unfolding reply_of
returns c =
    call-accepted c.args.s c.args.k (given c.args.incoming.now c.args.starts.now c.args.lens.now c.args.missing.now c.args.r.now
    c.args.out.now) c.args.work.now (sym c.in_default.ensures)
    (rw c.in_default-fault.is at (found (goal.at.returns c).After-fault))
    c.next_round-due.result c.next_round-due.ensures c.told_after.result c.told_after.ensures
    (mask c.args.s.party (letter c.args.incoming.now c.mail_of-mail.result))
    (ap (λ (y : Mail). mask c.args.s.party (letter c.args.incoming.now y)) c.mail_of-mail.ensures
    ∙ letters-are c.args.s.party c.args.incoming.now c.args.starts.now c.args.lens.now c.args.missing.now c.args.r.now c.args.out.now)
    c.step.new.work c.step.new.out c.step.ensures.0 c.step.ensures.1
