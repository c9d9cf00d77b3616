use Rattle.lists.specs.Kit.{refl, sym, ◌∙◌, true, false}
use Rattle.rounds.specs.EchoLaws.{told_fault_lem}
use Rattle.echo.proofs.check_entry.Goals as goal

pub returns-then-told : goal.returns-then-told
returns-then-told c =
    told_fault_lem c.args.f.i c.args.j c.args.k _ c.args.hashes.now c.args.m.now true
    (sym c.told.ensures ∙ c.if-told.true) c.check_hash.ensures

pub returns-else-told : goal.returns-else-told
returns-else-told c =
    told_fault_lem c.args.f.i c.args.j c.args.k 0 c.args.hashes.now c.args.m.now false (sym c.told.ensures ∙ c.if-told.false) refl
