use Rattle.std.proofs.Common.{rules}
use Rattle.lists.specs.FromFn.{made}
use Rattle.lists.specs.Kit.{get_or}
use Rattle.word.specs.Word.{plus}
use Rattle.chacha20.specs.ChaCha20 as C
use Rattle.chacha20.proofs.sums.Goals as goal

pub returns : goal.returns
unfolding C.sums
returns c =
    made _ _ (λ i. plus (get_or c.args.v.now i 0) (get_or c.args.s.now i 0)) _ _ (λ k y q l e. search rules) c.from_fn.ensures.items
