use Rattle.message.proofs.Laws.{no-inner}
use Rattle.message.proofs.inner_due.Goals as goal

pub returns-in_default : goal.returns-in_default
returns-in_default c = no-inner c.args.kind _ c.in_default.not-Dvalues
