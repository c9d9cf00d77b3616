use Rattle.std.specs.Prelude.{◌*◌}
use Rattle.std.proofs.Common.{rules}
use Rattle.lists.specs.FromFn.{made}
use Rattle.word.specs.Word.{word_at, word_list}
use Rattle.word.proofs.words.Goals as goal

pub returns : goal.returns
unfolding word_list
returns g c = made _ _ (λ i. word_at (i * 4) c.args.s.now) _ _ (λ k y q l e. search rules) c.from_fn.ensures.items
