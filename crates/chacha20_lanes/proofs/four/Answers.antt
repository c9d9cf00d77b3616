use Rattle.std.specs.Prelude.{◌+◌}
use Rattle.std.proofs.Common.{rules}
use Rattle.lists.specs.FromFn.{made}
use Rattle.chacha20_lanes.specs.Lanes.{lane_of}
use Rattle.chacha20_lanes.proofs.four.Goals as goal

pub returns : goal.returns
returns c = made _ _ (λ t. lane_of c.args.key.now (c.args.counter + t)) _ _ (λ k y q l e. search rules) c.from_fn.ensures.items
