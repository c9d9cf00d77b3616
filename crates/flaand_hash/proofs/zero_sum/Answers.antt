use Rattle.lists.specs.Kit.{ap, ◌∙◌, rules}
use Rattle.lists.specs.All.{all_of}
use Rattle.rounds.specs.Mail.{letter}
use Rattle.flaand_hash.specs.Laws.{zero_at, summed}
use Rattle.flaand_hash.proofs.zero_sum.Goals as goal

pub returns : goal.returns
unfolding summed
returns c =
    let t = zero_at c.args.f c.args.hs.now (letter c.args.incoming.now c.args.mail) in
    c.all_of.ensures t (λ k r l h. search rules) ∙ ap (λ n. all_of n t) c.leaky.ensures
