use Rattle.lists.specs.Kit.{ap, ◌∙◌, List, ℕ, arith}
use Rattle.rounds.specs.Area.{PENDING, keep}
use Rattle.area.specs.GivenLaws.{place_in, place-length, place-keeps}
use Rattle.area.specs.Sizes.{size-pending}
use Rattle.broadcast.proofs.keep_fault.Goals as goal

pub slice_bounds-put_fault-end : goal.slice_bounds-put_fault-end
slice_bounds-put_fault-end c = place_in c.requires.work PENDING _ _ (omega arith) c.place-p.ensures

pub put_fault-requires : goal.put_fault-requires
put_fault-requires c = (
  place-length c.requires.work PENDING _ _ _ (omega arith) c.place-p.ensures (size-pending c.args.f),
  λ ne. omega (arith, c.requires.party_lt_n ne, c.requires.work.ranges.range.eight),
)

pub returns : goal.returns
returns c =
    place-keeps c.args.f PENDING _ _ c.place-p.ensures c.put_fault.new.out c.args.work.now
    ∙ ap (λ (y : List ℕ). keep c.args.f PENDING y c.args.work.now) c.put_fault.ensures
