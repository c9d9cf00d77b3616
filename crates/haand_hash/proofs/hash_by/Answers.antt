use Rattle.std.specs.Prelude.{◌-◌}
use Rattle.lists.specs.Kit.{arith}
use Rattle.lists.specs.Over.{in-chunks}
use Rattle.haand_hash.specs.Window.{place}
use Rattle.haand_hash.specs.WindowLaws.{place-lt}
use Rattle.haand_hash.proofs.hash_by.Goals as goal

pub hash_of-requires : goal.hash_of-requires
hash_of-requires c =
    let p = place-lt c.args.f.n c.args.f.i c.args.k c.requires.0 c.requires.1 c.requires.2 in
    (c.requires.2, omega (arith, in-chunks (place c.args.f.i c.args.k) (c.args.f.n - 1) 32 p, c.requires.3))
