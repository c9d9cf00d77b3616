-- `admit::part_in` meets its contract.
use Rattle.lists.specs.Kit.{[]}
use Rattle.admit.specs.Admit.{given}
use Rattle.admit.proofs.AdmitLaws.{fits-own, fits-gone, fits-there}
use Rattle.admit.proofs.part_in.Goals as goal

pub returns-then-k-i : goal.returns-then-k-i
returns-then-k-i c =
    fits-own c.args.i (given c.args.incoming.now c.args.starts.now c.args.lens.now c.args.missing.now [] []) c.args.k c.if-k-i.true

pub returns-then-missing-k-ne0 : goal.returns-then-missing-k-ne0
returns-then-missing-k-ne0 c =
    fits-gone c.args.i (given c.args.incoming.now c.args.starts.now c.args.lens.now c.args.missing.now [] []) c.args.k c.if-k-i.false c.if-missing-k-ne0.true

pub returns : goal.returns
returns c =
    fits-there c.args.i (given c.args.incoming.now c.args.starts.now c.args.lens.now c.args.missing.now [] []) c.args.k c.if-k-i.false
    c.if-missing-k-ne0.false c.inside.result c.inside.ensures
