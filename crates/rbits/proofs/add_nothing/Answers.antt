use Rattle.lists.specs.Kit.{get_or}
use lib.Bits.{xor_zero_r}
use lib.Seq.{set-get_or}
use Rattle.rbits.proofs.add_nothing.Goals as goal

pub returns : goal.returns
returns c =
    let l = c.args.acc.now in
    rw (c.requires.tab_value.0, c.requires.tab_value.1, xor_zero_r (get_or l 0 0), xor_zero_r (get_or l 1 0), set-get_or l 0 0) (set-get_or l 1 0)
