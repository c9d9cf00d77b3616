use Rattle.lists.specs.Kit.{sym, ◌∙◌}
use Rattle.session.specs.SessionLaws.{plain-takes, echo-leaves}
use Rattle.session.proofs.keep_received.Goals as goal

pub keep-requires : goal.keep-requires
keep-requires c =
    record {
      work = c.requires.fact.work;
      received = c.requires.fact.received;
      mail_value = c.requires.mail_value (sym c.is_echo.ensures ∙ c.if-not-is_echo.true);
    }

pub returns-then-not-is_echo : goal.returns-then-not-is_echo
returns-then-not-is_echo c =
    plain-takes c.args.k _ c.args.work.now _ (sym c.is_echo.ensures ∙ c.if-not-is_echo.true) c.keep.ensures

pub returns-else-not-is_echo : goal.returns-else-not-is_echo
returns-else-not-is_echo c = echo-leaves c.args.k c.args.work.now _ (sym c.is_echo.ensures ∙ c.if-not-is_echo.false)
