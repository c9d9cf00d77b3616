use Rattle.std.specs.Prelude.{◌≡◌, ◌+◌, ◌*◌, ◌≤◌}
use Rattle.lists.specs.Kit.{refl, ap, arith, length}
use Rattle.engine.specs.Area.{off}
use Rattle.rounds.specs.Area.{DS, size_of}
use Rattle.triples.specs.Given.{ds-in, ds-lent}
use Rattle.triples.proofs.ds.Goals as goal
use Rattle.triples.proofs.ds.Goals.{After-later-due}

starts : (c : After-later-due) → (c.args.at.opened.0) + c.args.j * c.later-due.result
    ≡ off (size_of c.args.f) DS + c.args.j * c.later-due.result
starts c = ap (λ a. a + c.args.j * c.later-due.result) c.requires.2.opened.starts

inside : (c : After-later-due) → (c.args.at.opened.0) + c.args.j * c.later-due.result + c.later-due.result ≤ length c.args.work.now
inside c =
    ds-in c.requires.0 c.args.j c.requires.1 ((c.args.at.opened.0) + c.args.j * c.later-due.result)
    ((c.args.at.opened.0) + c.args.j * c.later-due.result + c.later-due.result) c.later-due.result (starts c) c.later-due.ensures refl

pub overflow_mul-a : goal.overflow_mul-a
overflow_mul-a c = omega (arith, inside (goal.at.overflow_mul-a c).After-later-due, c.well_formed)

pub overflow_add-a : goal.overflow_add-a
overflow_add-a c = omega (arith, inside (goal.at.overflow_add-a c).After-later-due, c.well_formed)

pub overflow_add-e : goal.overflow_add-e
overflow_add-e c = omega (arith, inside (goal.at.overflow_add-e c).After-later-due, c.well_formed)

pub slice_bounds-result-end : goal.slice_bounds-result-end
slice_bounds-result-end c = omega (arith, inside (goal.at.slice_bounds-result-end c).After-later-due)

pub returns : goal.returns
returns c =
    ds-lent c.requires.0 c.args.j c.requires.1 ((c.args.at.opened.0) + c.args.j * c.later-due.result)
    ((c.args.at.opened.0) + c.args.j * c.later-due.result + c.later-due.result)
    c.later-due.result (starts (goal.at.returns c).After-later-due) c.later-due.ensures refl
