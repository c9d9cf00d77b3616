use Rattle.session.specs.SessionLaws.{to-echo-is}
use Rattle.session.proofs.to_echo.Goals as goal

pub returns : goal.returns
returns c = to-echo-is c.args.n c.args.k c.is_echo.result c.is_echo.ensures
