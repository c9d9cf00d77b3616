use Rattle.lists.specs.Kit.{ap, ◌∙◌, List, ℕ}
use Rattle.rounds.specs.Area.{keep}
use Rattle.area.specs.GivenLaws.{place_in, place-length, place-keeps}
use Rattle.opening.proofs.put_records.Goals as goal

pub slice_bounds-keep_all-end : goal.slice_bounds-keep_all-end
slice_bounds-keep_all-end c = place_in c.requires.work.0 c.args.s _ _ c.requires.work.1 c.place-p.ensures

pub keep_all-requires : goal.keep_all-requires
keep_all-requires c =
    record {
      n_bound = (
        c.requires.work.0.ranges.range.eight,
        place-length c.requires.work.0 c.args.s _ _ _ c.requires.work.1 c.place-p.ensures c.requires.work.2,
      );
      x_len = c.requires.x_len;
    }

pub returns : goal.returns
returns c =
    place-keeps c.args.f c.args.s _ _ c.place-p.ensures c.keep_all.new.out c.args.work.now
    ∙ ap (λ (x : List ℕ). keep c.args.f c.args.s x c.args.work.now) c.keep_all.ensures
