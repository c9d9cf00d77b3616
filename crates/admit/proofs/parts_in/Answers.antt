use Rattle.lists.specs.Kit.{◌∙◌, [], rules}
use Rattle.admit.specs.Admit.{given}
use Rattle.admit.proofs.AdmitLaws.{parts_are}
use Rattle.admit.proofs.parts_in.Goals as goal

pub all_of-requires : goal.all_of-requires
all_of-requires c = search rules

pub returns : goal.returns
returns c l =
    c.all_of.ensures _ (λ k r h e. search rules)
    ∙ parts_are c.args.n l c.args.i (given c.args.incoming.now c.args.starts.now c.args.lens.now c.args.missing.now [] [])
