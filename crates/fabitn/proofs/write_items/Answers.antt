use Rattle.std.specs.Prelude.{◌+◌, ◌-◌, ◌*◌}
use Rattle.lists.specs.Kit.{refl, sym, ap, ◌∙◌, arith, rules}
use Rattle.rbits.specs.Chosen.{pair_at}
use Rattle.encode.specs.Encode.{bit_block}
use Rattle.encode.specs.Coded.{length-bit_block}
use Rattle.encode.specs.Stretch.{stretch-count, stretch-self, even-turn, even-end}
use Rattle.rounds.specs.Fabitn.{STRINGS, ITEM}
use Rattle.fabitn.proofs.write_items.Goals as goal
use Rattle.fabitn.proofs.write_items.Invariants.{item}

pub loop-j-init : goal.loop-j-init
loop-j-init c =
    let w =
    stretch-count STRINGS (item c.args.bits.now c.args.macs.now c.args.base) c.args.out.now c.put_count.new.out
    (omega arith) c.put_count.ensures in
    (w.same ∙ c.requires.out_len.0, stretch-self STRINGS _ 0 8 _ _ w)

pub loop-j-preserved : goal.loop-j-preserved
loop-j-preserved c = (
  c.loop-j.invariant.0,
  even-turn STRINGS (item c.args.bits.now c.args.macs.now c.args.base) ITEM (λ t h. length-bit_block _ _) c.loop-j.j
      (8 + c.loop-j.j * ITEM + ITEM) _
      c.loop-j.out c.put_bit_block.new.out
      c.loop-j.invariant.0 c.loop-j-test.true c.loop-j.invariant.1
      (c.put_bit_block.ensures ∙ ap (λ x. bit_block x (pair_at c.args.macs.now (c.args.base + c.loop-j.j))) c.bit.ensures) refl,
)

pub shape_of-out : goal.shape_of-out
shape_of-out c =
    c.loop-j.invariant.1.same ∙ c.loop-j.invariant.0 ∙ sym c.requires.out_len.0

pub returns : goal.returns
returns c =
    even-end STRINGS _ ITEM (λ t h. length-bit_block _ _) c.loop-j.j _ _ c.loop-j.invariant.0 c.loop-j.invariant.1
    (omega arith)
