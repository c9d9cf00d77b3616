use Rattle.lists.specs.Kit.{rules}
use Rattle.engine.specs.Plain.{rows_of}
use Rattle.rounds.specs.Area.{rows}
use Rattle.echo.proofs.keep_hashes.Goals as goal

pub returns : goal.returns
unfolding rows rows_of
returns c = c.put_rows.ensures _ (λ k l ne row left e h. search rules)
