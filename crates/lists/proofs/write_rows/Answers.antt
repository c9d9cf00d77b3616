use Rattle.std.specs.Prelude.{◌≡◌}
use Rattle.std.proofs.Common.{sym, ap, ◌∙◌, arith}
use Rattle.lists.specs.Over.{in-chunks}
use Rattle.lists.specs.Rows.{even-zero, even-in, even-turn, even-end, length-row}
use Rattle.lists.proofs.write_rows.Goals as goal

pub loop-k-init : goal.loop-k-init
loop-k-init g c r h = even-zero r c.args.len c.args.out.now

pub loop-k-preserved : goal.loop-k-preserved
loop-k-preserved g c r h =
    let fits = even-in r c.args.count c.args.len c.args.out.now c.requires.out_len c.loop-k.k c.loop-k-test.true in
    even-turn r c.args.count c.args.len c.args.out.now c.requires.out_len c.loop-k.k c.loop-k.out _ c.loop-k-test.true (c.loop-k.invariant r h)
    (h c.loop-k.k c.loop-k-test.true _ _ (length-row c.args.len c.loop-k.k c.loop-k.out (omega arith)) c.put.ensures) c.put.auto.arg2

pub returns : goal.returns
returns g c r h = even-end r c.args.count c.args.len c.args.out.now c.requires.out_len c.loop-k.k c.loop-k.out (c.loop-k.invariant r h) (omega arith)
