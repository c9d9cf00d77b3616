use Rattle.std.specs.Prelude.{◌≡◌}
use Rattle.lists.specs.Kit.{ap, ◌∙◌, List, ℕ, rules}
use Rattle.lists.specs.Over.{tab}
use Rattle.algebra.specs.Group.{num}
use Rattle.plan.specs.Plan.{leaky}
use Rattle.rounds.specs.Area.{rows}
use Rattle.rounds.specs.Mail.{letter}
use Rattle.rounds.specs.Flaand.{e_told, e_rows}
use Rattle.flaand.proofs.keep_es.Goals as goal

pub returns : goal.returns
unfolding e_rows
returns c =
    let f = c.args.f in
    let g : ℕ → List ℕ = λ k. tab (leaky f.l) (λ t. num (e_told (letter c.args.incoming.now c.args.mail) k t)) in
    c.put_rows.ensures g (λ k l ne row left e h. search rules) ∙ ap (λ m. rows f m g) c.leaky.ensures
