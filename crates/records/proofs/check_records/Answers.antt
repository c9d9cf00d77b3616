use Rattle.lists.specs.Kit.{sym}
use Rattle.records.proofs.check_records.Goals as goal

pub returns-then-none_faulty : goal.returns-then-none_faulty
returns-then-none_faulty c = sym (c.none_faulty.ensures c.if-none_faulty.true)
