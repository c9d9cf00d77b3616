use Rattle.lists.specs.Kit.{get_or}
use Rattle.std.proofs.Common.{rules}
use Rattle.std.proofs.lemmas.List.FromFn.{fill_by_all}
use Rattle.blake3_core.specs.Compress.{MSG_PERMUTATION, permute}
use Rattle.blake3_core.proofs.permute.Goals as goal

pub returns : goal.returns
unfolding permute
returns c =
    fill_by_all (λ k. get_or c.args.m.now (get_or MSG_PERMUTATION k 0) 0) c.from_fn.result 16 0 c.from_fn.ensures.items.long
    (λ k h. let e = c.from_fn.ensures.items.at k 0 h in search rules)
