use Rattle.lists.specs.Kit.{ap, ◌∙◌, List, ℕ}
use Rattle.rounds.specs.Area.{keep}
use Rattle.area.specs.GivenLaws.{place_in, place-length, place-keeps}
use Rattle.toss_recv.proofs.keep_told.Goals as goal

pub slice_bounds-told_rows-end : goal.slice_bounds-told_rows-end
slice_bounds-told_rows-end c = place_in c.requires.work.0 c.args.s _ _ c.requires.work.1.section c.place-p.ensures

pub told_rows-requires : goal.told_rows-requires
told_rows-requires c =
    record {
      n_bound = (
        c.requires.work.0.ranges.range.eight,
        place-length c.requires.work.0 c.args.s _ _ _ c.requires.work.1.section
            c.place-p.ensures c.requires.work.1.rows,
      );
      arrived = c.requires.arrived;
    }

pub returns : goal.returns
returns c =
    place-keeps c.args.f c.args.s _ _ c.place-p.ensures c.told_rows.new.section c.args.work.now
    ∙ ap (λ (x : List ℕ). keep c.args.f c.args.s x c.args.work.now) c.told_rows.ensures
