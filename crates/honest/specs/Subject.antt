-- What demand 3 is claimed of: opening and the rounds of document 01, as crate rounds has them.
-- Every statement of this crate is about `opener` and `subject`.
-- A must-fail edit puts what a wrong box does in their place (and what it needs in place of these lines): the claim can't be proved of it.
use Rattle.engine.specs.World.{Opening}
use Rattle.engine.specs.Plain.{Table}
use Rattle.rounds.specs.Opening.{Args, opening}
use Rattle.rounds.specs.Table.{table}

abbrev pub opener : Opening Args
opener = opening

abbrev pub subject : Table
subject = table
