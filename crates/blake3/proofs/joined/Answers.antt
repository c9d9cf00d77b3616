use Rattle.std.specs.Prelude.{◌≡◌, ◌*◌}
use Rattle.lists.specs.Kit.{ap, ◌∙◌, arith}
use Prim.Native.Nat.{◌%◌, ◌^◌}
use native.Mathlib.Nat.{add_comm}
use lib.Bits.{bit_or, or_shifted_r}
use Rattle.blake3.proofs.joined.Goals as goal

pub returns : goal.returns
returns c =
    let e : c.args.high * 2 ^ 32 % 2 ^ 64 ≡ c.args.high * 2 ^ 32 = omega arith in
    ap (bit_or c.args.low) e ∙ or_shifted_r c.args.high 32 c.args.low c.ranges.low.fits ∙ add_comm (c.args.high * 2 ^ 32) c.args.low
