-- `aes_tables::sbox` meets its contract: the code's table is that of the definition, computed.
use Rattle.lists.specs.Kit.{refl}
use Rattle.fips197.specs.Sbox.{sbox}
use Rattle.aes_tables.proofs.sbox.Goals as goal

pub returns : goal.returns
unfolding sbox
returns c = refl
