use Rattle.std.specs.Prelude.{◌*◌}
use Rattle.std.proofs.Common.{rules}
use Rattle.std.proofs.lemmas.List.FromFn.{fill_by_all}
use Rattle.word.specs.Word.{word_at}
use Rattle.blake3_node.proofs.whole.Goals as goal

pub returns : goal.returns
returns c =
    fill_by_all (λ k. word_at (4 * k) c.args.s.now) c.from_fn.result 16 0 c.from_fn.ensures.items.long
    (λ k h. let e = c.from_fn.ensures.items.at k 0 h in search rules)
