use Rattle.lists.specs.Kit.{arith}
use Rattle.fips197.proofs.SboxLaws.{sbox-byte}
use Rattle.aes_tables.specs.ReadLaws.{sbox-at}
use Rattle.aes_tables.proofs.Tables.sub.Goals as goal

pub overflow_cast-result-2 : goal.overflow_cast-result-2
overflow_cast-result-2 c = omega (arith, sbox-at c.args.self.now.words c.args.b c.args.self.now.right c.ranges.b.fits, sbox-byte c.args.b)

pub returns : goal.returns
returns c = sbox-at c.args.self.now.words c.args.b c.args.self.now.right c.ranges.b.fits
