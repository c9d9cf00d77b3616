use Rattle.algebra.specs.Group.{num}
use Rattle.encode.specs.Encode.{two_bits}
use Rattle.encode.proofs.Laws.{bytes-two}
use Rattle.encode.proofs.put_two_bits.Goals as goal

pub returns : goal.returns
unfolding two_bits
returns c =
    bytes-two (num c.args.a) _ (num c.args.b) _ c.args.out.now c.requires c.bit_byte.ensures c.bit_byte-2.ensures
