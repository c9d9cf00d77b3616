use Rattle.lists.specs.Kit.{ap, ◌∙◌}
use Rattle.engine.specs.Step.{Refused}
use Rattle.interface.specs.Interface.{packed_of}
use Rattle.interface.proofs.packed_refusal.Goals as goal

pub returns : goal.returns
returns c = c.packed.ensures ∙ ap (λ n. packed_of (Refused n c.args.party)) c.number.ensures
