use Rattle.lists.specs.Kit.{sym, ap, ◌∙◌, List, ℕ}
use Rattle.rounds.specs.Area.{keep}
use Rattle.area.specs.GivenLaws.{place_in, place-length, place-keeps}
use Rattle.opening.proofs.put_section.Goals as goal

pub returns : goal.returns
returns c =
    place-keeps c.args.f c.args.s _ _ c.place-p.ensures c.copy_from_slice.new.self c.args.work.now
    ∙ ap (λ (x : List ℕ). keep c.args.f c.args.s x c.args.work.now) c.copy_from_slice.ensures.after

pub copy_from_slice-requires : goal.copy_from_slice-requires
copy_from_slice-requires c = place-length c.requires.0 c.args.s _ _ _ c.requires.1 c.place-p.ensures (sym c.requires.2)

pub slice_bounds-copy_from_slice-end : goal.slice_bounds-copy_from_slice-end
slice_bounds-copy_from_slice-end c = place_in c.requires.0 c.args.s _ _ c.requires.1 c.place-p.ensures
