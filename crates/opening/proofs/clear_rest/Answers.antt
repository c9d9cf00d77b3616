use Rattle.std.specs.Prelude.{◌≤◌}
use Rattle.lists.specs.Kit.{arith, length, rules}
use Rattle.area.specs.GivenLaws.{section-inside}
use Rattle.inputs.specs.Given.{EMPTY}
use Rattle.opening.specs.FilledLaws.{clears}
use Rattle.opening.proofs.clear_rest.Goals as goal
use Rattle.opening.proofs.clear_rest.Goals.{After-section_at-a}

ends : (c : After-section_at-a) → c.section_at-a.result ≤ length c.args.work.now
ends c = omega (arith, section-inside c.requires EMPTY (omega arith), c.section_at-a.ensures)

pub slice_bounds-fill-count : goal.slice_bounds-fill-count
slice_bounds-fill-count c = ends (goal.at.slice_bounds-fill-count c).After-section_at-a

pub slice_bounds-fill-start : goal.slice_bounds-fill-start
slice_bounds-fill-start c = ends (goal.at.slice_bounds-fill-start c).After-section_at-a

pub returns : goal.returns
returns c =
    clears c.requires c.section_at-a.result _ c.section_at-a.ensures (ends (goal.at.returns c).After-section_at-a)
    (c.fill.ensures.after (λ y e. search rules))
