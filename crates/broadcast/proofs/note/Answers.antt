use Rattle.lists.specs.Kit.{ap, ◌∙◌, rules}
use Rattle.engine.specs.Plain.{waits}
use Rattle.rounds.specs.Area.{PENDING, keep}
use Rattle.broadcast.proofs.note.Goals as goal

pub keep_hashes-requires : goal.keep_hashes-requires
keep_hashes-requires c = search rules

pub keep_fault-requires : goal.keep_fault-requires
keep_fault-requires c = search rules

pub shape_of-work : goal.shape_of-work
shape_of-work c = search rules

pub returns : goal.returns
returns c =
    c.keep_fault.ensures ∙ ap (keep c.args.f PENDING (waits (record { code = c.args.code; party = c.args.party }))) c.keep_hashes.ensures
