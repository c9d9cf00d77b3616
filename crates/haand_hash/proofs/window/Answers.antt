use Rattle.std.specs.Prelude.{◌-◌, ◌*◌, ◌≤◌}
use Rattle.lists.specs.Kit.{arith}
use Prim.Native.Nat.{◌/◌}
use native.Mathlib.Nat.{mul-le-mul_right, div-mul-le_self}
use Rattle.haand_hash.specs.WindowLaws.{some_fit}
use Rattle.haand_hash.proofs.window.Goals as goal

pub returns : goal.returns
returns c =
    let h : c.min.result ≤ c.args.lanes / (c.args.n - 1) = omega (arith, c.min.ensures) in (
      omega (arith, c.min.ensures, some_fit c.args.lanes (c.args.n - 1) (omega arith) (omega arith)),
      omega (arith, c.min.ensures),
      omega (arith, mul-le-mul_right (c.args.n - 1) h, div-mul-le_self c.args.lanes (c.args.n - 1)),
    )
