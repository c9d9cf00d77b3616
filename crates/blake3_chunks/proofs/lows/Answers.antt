use Rattle.std.specs.Prelude.{◌+◌, ◌%◌, ◌^◌}
use Rattle.std.proofs.Common.{rules}
use Rattle.blake3_core.proofs.Made.{made}
use Rattle.blake3_chunks.proofs.lows.Goals as goal

pub returns : goal.returns
returns c =
    made 4 (λ j. (c.args.t + j) % 2 ^ 32) c.from_fn.result 0 c.from_fn.ensures.items.long
    (λ k h. let e = c.from_fn.ensures.items.at k 0 h in search rules)
