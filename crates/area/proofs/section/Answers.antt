use Rattle.lists.specs.Kit.{◌∙◌}
use Rattle.area.specs.GivenLaws.{place_at, place-fits}
use Rattle.area.proofs.section.Goals as goal

pub lent-requires : goal.lent-requires
lent-requires c = place-fits c.requires.0 c.args.s _ _ c.requires.1 c.place.ensures

pub returns : goal.returns
returns c =
    c.lent.ensures ∙ place_at c.args.f c.args.s _ _ c.place.ensures c.args.work.now
