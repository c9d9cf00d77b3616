use Rattle.std.specs.Prelude.{◌≡◌, Err}
use Rattle.lists.specs.Kit.{rules}
use Rattle.engine.specs.Step.{part, fault_of}
use Rattle.rounds.specs.Mail.{letter}
use Rattle.rounds.specs.FaultLaws.{finds-one, finds-two}
use Rattle.admit.proofs.AdmitLaws.{received}
use Rattle.session.proofs.fault.Goals as goal

pub returns-in_err-form : goal.returns-in_err-form
unfolding fault_of
returns-in_err-form c =
    let r : c.from_residual.result ≡ Err c.in_err-form.field-0.0 = search rules in
    rw r (finds-one c.in_err-form.field-0.0 _ _ c.in_err-form.ensures)

pub content-requires : goal.content-requires
content-requires c =
    record {
      work = c.requires.work;
      round = c.requires.round;
      received = received c.args.f c.args.k c.args.incoming.now c.args.mail c.args.missing.now c.in_ok-form.ensures
          c.requires.work.ranges.range.eight c.requires.parts;
    }

pub returns : goal.returns
unfolding fault_of letter part
returns c = finds-two c.content.result _ _ c.in_ok-form.ensures c.content.ensures
