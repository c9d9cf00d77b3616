use Rattle.std.specs.Prelude.{Ok}
use Rattle.lists.specs.Kit.{refl, sym, subst, ◌∙◌}
use Rattle.engine.specs.Step.{mask}
use Rattle.rounds.specs.Mail.{letter}
use Rattle.rounds.specs.FaultLaws.{Finds}
use Rattle.admit.proofs.AdmitLaws.{round-one, round-low}
use Rattle.session.specs.SessionLaws.{echo-received, check-echo, check-held, check-plain}
use Rattle.session.proofs.content.Goals as goal

pub check-requires : goal.check-requires
check-requires c =
    let e = sym c.is_echo.ensures ∙ c.if-is_echo.true in
    record {
      work = c.requires.work;
      le_k = round-one c.args.f.n c.args.k c.requires.round;
      received = echo-received c.args.f c.args.k c.args.incoming.now c.args.mail e c.requires.received;
    }

pub returns-then-is_echo : goal.returns-then-is_echo
returns-then-is_echo c =
    subst (Finds c.check.result)
    (sym (check-echo c.args.f c.args.work.now (mask c.args.f (letter c.args.incoming.now c.args.mail)) c.args.k (sym c.is_echo.ensures
    ∙ c.if-is_echo.true)))
    c.check.ensures

pub to_echo-requires : goal.to_echo-requires
to_echo-requires c =
    round-low c.args.f.n c.args.k c.requires.round

pub returns-then-to_echo : goal.returns-then-to_echo
returns-then-to_echo c =
    subst (Finds (Ok tt))
    (sym (check-held c.args.f c.args.work.now (mask c.args.f (letter c.args.incoming.now c.args.mail)) c.args.k (sym c.is_echo.ensures
    ∙ c.if-is_echo.false)
    (sym c.to_echo.ensures ∙ c.if-to_echo.true)))
    refl

pub returns : goal.returns
returns c =
    subst (Finds c.judge.result)
    (sym (check-plain c.args.f c.args.work.now (mask c.args.f (letter c.args.incoming.now c.args.mail)) c.args.k (sym c.is_echo.ensures
    ∙ c.if-is_echo.false)
    (sym c.to_echo.ensures ∙ c.if-to_echo.false)))
    c.judge.ensures
