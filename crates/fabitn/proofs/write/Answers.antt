use Rattle.std.specs.Prelude.{◌+◌, ◌-◌, ◌*◌}
use Rattle.lists.specs.Kit.{refl, arith, rules}
use Rattle.lists.specs.Over.{length-take-drop}
use Rattle.lists.specs.Rows.{even-zero, even-put, even-end}
use Rattle.encode.specs.Coded.{length-encode, length-bit_block}
use Rattle.rounds.specs.Fabitn.{STRINGS, ITEM, MSG}
use Rattle.fabitn.proofs.write.Goals as goal
use Rattle.fabitn.proofs.write.Invariants.{message}

pub loop-q-init : goal.loop-q-init
loop-q-init c = (even-zero _ MSG _)

pub write_items-requires : goal.write_items-requires
write_items-requires c =
    record {
      out_len = (
        omega (
          arith,
          length-take-drop (c.loop-q.q * MSG) (c.loop-q.q * MSG + MSG) c.loop-q.out,
          c.loop-q.invariant.same,
          c.requires.out_len,
        ),
        c.requires.le_n.2,
      );
      base_bound = omega (arith, c.requires.le_n.1);
    }

pub loop-q-preserved : goal.loop-q-preserved
loop-q-preserved c = (even-put (message c.args.bits.now c.args.macs.now) (c.args.n - 1) MSG c.args.out.now c.requires.out_len c.loop-q.q
    (c.loop-q.q * MSG + MSG) c.loop-q.out
    c.write_items.new.out c.loop-q-test.true c.loop-q.invariant
    (length-encode ITEM STRINGS _ (λ t h. length-bit_block _ _)) c.write_items.ensures refl)

pub shape_of-out : goal.shape_of-out
shape_of-out c = c.loop-q.invariant.same

pub returns : goal.returns
returns c =
    even-end _ (c.args.n - 1) MSG _ c.requires.out_len c.loop-q.q _ c.loop-q.invariant (omega arith)
