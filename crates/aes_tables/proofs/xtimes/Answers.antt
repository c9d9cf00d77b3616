use Rattle.lists.specs.Kit.{sym, arith}
use Rattle.fips197.proofs.FieldLaws.{product-two, product-byte}
use Rattle.aes_tables.proofs.xtimes.Goals as goal

pub overflow_cast-result : goal.overflow_cast-result
overflow_cast-result c = omega (arith, product-two c.args.b c.ranges.b.fits, product-byte 2 c.args.b (omega arith) c.ranges.b.fits)

pub returns : goal.returns
returns c = sym (product-two c.args.b c.ranges.b.fits)
