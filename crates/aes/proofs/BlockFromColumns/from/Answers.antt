use Rattle.std.specs.Prelude.{◌≡◌, ◌+◌, ◌*◌}
use Rattle.lists.specs.Kit.{arith}
use Prim.Native.Nat.{◌%◌}
use Rattle.aes.specs.Columns.{block_of}
use Rattle.aes.proofs.BlockFromColumns.from.Goals as goal

pub returns : goal.returns
unfolding block_of
returns c =
    let s = c.args.s in
    let e0 : s.0 ≡ s.0 % 0x1_0000_0000 = omega arith in
    let e2 : s.2 ≡ s.2 % 0x1_0000_0000 = omega arith in
    λ i. record { 0 = s.1 * 0x1_0000_0000 + e0 i; 1 = s.3 * 0x1_0000_0000 + e2 i }
