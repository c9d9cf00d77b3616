use Rattle.lists.specs.Kit.{ap, ◌∙◌, List, ℕ, arith}
use Rattle.rounds.specs.Area.{ES, keep}
use Rattle.area.specs.GivenLaws.{place_in, place-length, place-keeps}
use Rattle.area.specs.Sizes.{size-es}
use Rattle.flaand.proofs.hold_es.Goals as goal

pub slice_bounds-keep_es-end : goal.slice_bounds-keep_es-end
slice_bounds-keep_es-end c = place_in c.requires.work ES _ _ (omega arith) c.place-p.ensures

pub keep_es-requires : goal.keep_es-requires
keep_es-requires c =
    record { ranged = (c.requires.work.ranges, place-length c.requires.work ES _ _ _ (omega arith) c.place-p.ensures (size-es c.args.f)); arrived = c.requires.arrived }

pub returns : goal.returns
returns c =
    place-keeps c.args.f ES _ _ c.place-p.ensures c.keep_es.new.section c.args.work.now
    ∙ ap (λ (y : List ℕ). keep c.args.f ES y c.args.work.now) c.keep_es.ensures
